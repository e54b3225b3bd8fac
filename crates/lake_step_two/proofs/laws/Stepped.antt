-- The table of the plain grammar, symbol by symbol. Assumes nothing.
use Rattle.std.specs.Prelude.{ℕ, zero, suc, ◌+◌, ◌-◌, ◌*◌, ◌≤◌, ◌<◌, min, ◌≡◌, refl, Bool, true, false, ◌&&◌, length, set, take}
use Rattle.std.proofs.Math.Path.{sym, ap, ap₂}
use Rattle.std.proofs.Common.{◌∙◌, subst}
use Rattle.std.proofs.Math.Bool.{not}
use mathlib.Core.List.{List, [], ◌∷◌, ◌++◌, map}
use Rattle.std.proofs.Math.Option.{Option, none, some}
use native.Mathlib.Omega.{arith}
use Rattle.std.proofs.Math.ListN.{get_or}
use Rattle.std.proofs.lemmas.List.{length-map}
use Rattle.read_tokens.specs.Token.{Symbol, Leaf, name, any}
use Rattle.grammar.specs.Exp.{Exp, sym as uses, ter, size}
use Rattle.grammar.specs.Numbers.{Grammar, is_lake}
use Rattle.grammar.specs.Parts.{parts_of}
use Rattle.grammar_table.specs.Table.{table_words, expressions_at, symbols_at, symbol_words, symbol_count, terminal_count, symbol_word}
use Rattle.grammar_table.specs.Holds.{Holds, present}
use Rattle.base_words.specs.Set.{member_of}
use Rattle.lake_step_one.specs.Intermediate.{intermediate}
use Rattle.lake_rules.specs.Analysis.{analysis, lake_alt}
use Rattle.grammar.specs.Numbers.{terminal_in}
use Rattle.lake_sets.specs.steps.Steps.{alt_in}
use Rattle.lake_step_one.specs.Proper.{Proper, middle}
use Rattle.grammar_table.specs.laws.Parts.{total, present-some}
use Rattle.lake_sets.specs.laws.Told.{lake-alt-is}
use Rattle.lake_step_one.proofs.laws.Held.{names-are, terminals-are, rights-long}
use Rattle.lake_step_one.specs.steps.Runs.{Grew, BodyAt, body_parts, ends_at}
use Rattle.lake_step_one.specs.steps.Made.{next_by, lake_at, MadeOf, with_bodies, Short}
use Rattle.lake_step_one.proofs.laws.Next.{lake-at, body_at, made_more}
use Rattle.lake_step_one.proofs.laws.Final.{made-start, count-is, finished}
use Rattle.lake_plain.specs.Plain.{alternatives, plain_by, plain_bodies}
use Rattle.lake_step_two.specs.steps.Skips.{only_if, each, symbol_in, terminal_of, chosen_in, Numbered, PlainTo}
use Rattle.lake_step_two.specs.steps.Stepped.{Once, Ready, plain_of, PlainMade, PlainNext, PlainAll, SteppedTwo}
use Rattle.lake_step_two.proofs.laws.Bodies.{nonterminals-each, terminals-each, plain_at, plain-long}

some_at : (es : List (Exp ℕ)) (s : ℕ) → s < length es → get_or (map some es) s none ≡ some (get_or es s (ter any))
some_at [] s l = let z : ⊥ = omega arith in absurd z
some_at (e ∷ es) zero l = refl
some_at (e ∷ es) (suc s) l = some_at es s (omega arith)

module _ (t : List ℕ) (alts : List (List ℕ)) (g : Grammar) (a : Ready t alts g) where
  abbrev H : Holds t (middle g)
  H = a.holds

  abbrev leaf : ℕ → Leaf
  leaf i = get_or g.terminals i any

  -- ALT of a symbol
  abbrev set_of : ℕ → List ℕ
  set_of s = alt_in t alts s

  symbols : symbol_count t ≡ length g.names
  symbols = names-are t (middle g) H

  terminals : terminal_count t ≡ length g.terminals
  terminals = terminals-are t (middle g) H

  bodies : symbol_count t ≡ length (intermediate g)
  bodies = rights-long t (middle g) H

  pub plain-count : length (plain_of g) ≡ symbol_count t
  unfolding plain_bodies
  plain-count = plain-long g (analysis g) g.names (intermediate g) 0 (omega (arith, symbols, bodies)) ∙ sym bodies

  alt-is : (s : ℕ) → s < symbol_count t → set_of s ≡ lake_alt (analysis g) s
  alt-is s l = lake-alt-is t g H a.proper alts a.alts-are s (omega (arith, symbols))

  chosen_is : (u : List ℕ) → chosen_in t leaf u (symbol_count t) (terminal_count t) ≡ alternatives g u
  unfolding alternatives
  chosen_is u = ap₂ ◌++◌
      (ap (each (symbol_in t u)) symbols
      ∙ nonterminals-each u (symbol_in t u) g.names 0
      (λ i l. ap (λ (b : Bool). only_if (member_of u i && not b) (uses i)) (sym (lake-at t (middle g) H i (omega (arith, symbols))))
      ∙ ap (λ (j : ℕ). only_if (member_of u j && not (is_lake (get_or g.names i (name [])))) (uses j)) (let q : i ≡ 0 + i = omega arith in q)))
      (ap (each (terminal_of leaf u)) terminals
      ∙ terminals-each u (terminal_of leaf u) g.terminals 0 (λ i l. ap (λ (j : ℕ). only_if (member_of u (64 + j)) (ter (leaf i))) (let q : i ≡ 0 + i = omega arith in q)))

  body_is : (s : ℕ) → s < symbol_count t → plain_by (lake_at t s) (get_or (intermediate g) s none) (chosen_in t leaf (set_of s) (symbol_count t) (terminal_count t)) ≡ get_or (plain_of g) s (ter any)
  unfolding plain_bodies
  body_is s l =
      let O = get_or (intermediate g) s none in
      sym (plain_at g (analysis g) g.names (intermediate g) 0 s (omega (arith, symbols)) (omega (arith, bodies))
      ∙ ap₂ (λ (b : Bool) (i : ℕ). plain_by b O (alternatives g (lake_alt (analysis g) i))) (lake-at t (middle g) H s l) (let q : 0 + s ≡ s = omega arith in q)
      ∙ ap (plain_by (lake_at t s) O) (sym (chosen_is (set_of s) ∙ ap (alternatives g) (alt-is s l))))

  -- one symbol more
  pub plain_more : (s from m b p v : ℕ) (u : List ℕ) (out one out' : List ℕ) → s < 64 → b ≡ symbol_word t s 1 → u ≡ alt_in t alts s
      → PlainTo t (lake_at t s) u (symbol_count t) (terminal_count t) from b out m one p → (p < 4294967296 → v ≡ p) → out' ≡ set one (symbols_at + symbol_words * s + 1) v
      → s < symbol_count t → PlainMade t g s from m out → PlainMade t g (s + 1) (next_by from b) p out'
  plain_more s from m b p v u out one out' small eb us to ev eo l old =
      let O = get_or (intermediate g) s none in
      let E = get_or (plain_of g) s (ter any) in
      let at : BodyAt (terminal_in g) t from b O
      = subst (λ (i : ℕ). BodyAt (terminal_in g) t i b O) (sym old.from_is)
      (subst (λ (y : ℕ). BodyAt (terminal_in g) t (total (present (take s (intermediate g)))) y O) (sym eb) (body_at t (middle g) H s l)) in
      let numbered : Numbered (terminal_in g) leaf (terminal_count t) = λ i k. a.once.each-its i (omega (arith, terminals)) in
      let gr : Grew out m (parts_of (terminal_in g) m E) one p
      = subst (λ (e : Exp ℕ). Grew out m (parts_of (terminal_in g) m e) one p)
      (ap (λ (y : List ℕ). plain_by (lake_at t s) O (chosen_in t leaf y (symbol_count t) (terminal_count t))) us ∙ body_is s l)
      (to (terminal_in g) leaf O numbered a.once.dot old.long at) in
      let is : get_or (map some (plain_of g)) s none ≡ some E = some_at (plain_of g) s (omega (arith, plain-count, l)) in
      made_more t (map some (plain_of g)) s from m b p v out one out' small eb (λ q. ev q ∙ ap (λ (o : Option (Exp ℕ)). ends_at o p) (sym is)) eo (middle g) H
      (length-map (plain_of g) some ∙ plain-count) l (subst (λ (o : Option (Exp ℕ)). Grew out m (body_parts (terminal_in g) m o) one p) (sym is) gr) old

pub plain-next : (t : List ℕ) (alts : List (List ℕ)) (r x s from m b p v : ℕ) (u : List ℕ) (out one out' : List ℕ) → s < 64 → b ≡ symbol_word t s 1 → u ≡ alt_in t alts s
    → PlainTo t (lake_at t s) u r x from b out m one p → (p < 4294967296 → v ≡ p) → out' ≡ set one (symbols_at + symbol_words * s + 1) v → PlainNext t alts r x s from m out (next_by from b) p out'
plain-next t alts r x s from m b p v u out one out' small eb eu to ev eo g a er ex l old =
    plain_more t alts g a s from m b p v u out one out' small eb eu (subst (λ (i : ℕ). PlainTo t (lake_at t s) u i (terminal_count t) from b out m one p) er
    (subst (λ (i : ℕ). PlainTo t (lake_at t s) u r i from b out m one p) ex to)) ev eo l old

-- all together
pub stepped : (t : List ℕ) (alts : List (List ℕ)) (out low built done : List ℕ) (r x m v k : ℕ) → r ≡ symbol_count t → x ≡ terminal_count t → length out ≡ table_words → length low ≡ length out
    → ((i : ℕ) → i < expressions_at → i < length out → get_or low i 0 ≡ get_or t i 0) → PlainAll t alts r x low m built → (m < 4294967296 → v ≡ m) → done ≡ set built 2 v → k ≡ min 1025 m → SteppedTwo
    t alts done k
stepped t alts out low built done r x m v k er ex long same copied all ev eo ek g a short =
    let some-plain : List (Option (Exp ℕ)) = map some (plain_of g) in
    let res = all g a er ex (made-start t (middle g) some-plain low (same ∙ long) (λ i l. copied i l (omega arith))) in
    let made : PlainMade t g (symbol_count t) res.0 m built = subst (λ (y : ℕ). PlainMade t g y res.0 m built) er res.1 in
    let brief : Short (middle g) = record { names = short.names; literals = short.literals } in
    let len : length some-plain ≡ symbol_count t = length-map (plain_of g) some ∙ plain-count t alts g a in (
      ek ∙ ap (min 1025) (count-is t (middle g) some-plain a.holds len brief res.0 m v built made ev ∙ ap total (present-some (plain_of g))),
      λ fits. subst (λ (y : List ℕ). Holds y (with_bodies g (plain_of g))) (sym eo)
          (finished t (middle g) some-plain a.holds len brief res.0 m v built made ev (omega (arith, fits, ap total (present-some (plain_of g))))),
    )
