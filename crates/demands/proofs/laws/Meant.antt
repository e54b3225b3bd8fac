-- The plain bodies, which the calls evaluate, are those of what the symbols stand for: each lake's is its own right side, then water, then one byte where no
-- alternative symbol matches (01, Lakes made plain). Assumes nothing.
use Rattle.std.specs.Prelude.{ℕ, ◌+◌, ◌≤◌, ◌<◌, ◌≡◌, refl, Bool, true, false, List, [], ◌++◌, map, get_or, replicate, ltb}
use Rattle.std.proofs.Math.Path.{sym, ap, fun_ext}
use Rattle.std.proofs.Common.{◌∙◌, subst, length-append, ltb-true, ltb-false}
use Rattle.std.proofs.Math.Option.{Option, none}
use native.Mathlib.Omega.{arith}
use Rattle.std.proofs.Math.ListN.{length, get_or-eq_default}
use Rattle.std.proofs.lemmas.List.{length-map, length-replicate}
use Rattle.read_tokens.specs.declared.Mode.{Mode}
use Rattle.read_tokens.specs.Token.{name, any}
use Rattle.grammar.specs.Exp.{Exp, Rule, ter}
use Rattle.grammar.specs.Numbers.{Grammar, is_lake, left_sides, loose_lakes, symbols_of, right_by, numbered}
use Rattle.read_syntax.specs.Reading.{rules_of}
use Rattle.lake_step_one.specs.Intermediate.{water_in, intermediate_by, intermediate}
use Rattle.lake_rules.specs.Analysis.{Analysis, analysis, lake_alt}
use Rattle.grammar_table.specs.laws.Places.{get_d_any}
use Rattle.lake_step_one.proofs.laws.Next.{bodies-at, bodies-long as middle-long}
use Rattle.lake_plain.specs.Plain.{alternatives, plain_by, plain_bodies}
use Rattle.lake_step_two.proofs.laws.Bodies.{plain_at}
use Rattle.write_text.specs.laws.Own.{lefts-long}
use Rattle.write_text.specs.laws.Plain.{bodies-long}
use Rattle.match_meaning.specs.Meaning.{SymbolBody, rule, Meant, Node, Derives, plain_body, plain_of}
use Rattle.match_meaning.proofs.laws.LakesPlain.{lakes-are-plain}
use Rattle.match_eval.specs.Eval.{nowhere, body_of}
use Rattle.match_cells.specs.laws.Sound.{plainly}
use Rattle.match_derived.specs.laws.Whole.{Holds}
use Rattle.prepare.specs.Prepare.{prepared, prepared_by}
use Rattle.demands.specs.Meant.{stands_for, stands_in, meant_of, meant}

-- one symbol, made plain by steps 1 and 2
made_plain : (b : Bool) (w o : Option (Exp ℕ)) (ss : List (Exp ℕ)) → plain_body w (stands_for b o ss) ≡ plain_by b (intermediate_by b w o) ss
unfolding plain_body
made_plain true w o ss = refl
made_plain false w o ss = refl

-- a right side, or none, for each symbol
pub rights-many : (rs : List Rule) → length (numbered rs).names ≡ length (numbered rs).rights
unfolding numbered symbols_of
rights-many rs =
    let k : length {A = Option (Exp ℕ)} (replicate (length (loose_lakes rs)) none) ≡ length (loose_lakes rs) = length-replicate (length (loose_lakes rs)) none in
    omega (
      arith,
      length-append (left_sides rs) (loose_lakes rs),
      lefts-long rs,
      length-append (map (right_by (left_sides rs ++ loose_lakes rs)) rs) (replicate (length (loose_lakes rs)) none),
      length-map rs (right_by (left_sides rs ++ loose_lakes rs)),
      k,
    )

module _ (g : Grammar) (a : Analysis) (many : length g.names ≡ length g.rights) (long : length (plain_bodies g a) ≡ length g.names) where
  -- a symbol that there is
  there : (r : ℕ) → r < length g.names → plain_body (water_in g) (stands_in true g a r) ≡ body_of (plain_bodies g a) r
  unfolding plain_bodies intermediate
  there r h =
      let mid : length (intermediate g) ≡ length g.names = middle-long (water_in g) g.names g.rights many in
      made_plain (is_lake (get_or g.names r (name []))) (water_in g) (get_or g.rights r none) (alternatives g (lake_alt a r))
      ∙ ap (λ (o : Option (Exp ℕ)). plain_by (is_lake (get_or g.names r (name []))) o (alternatives g (lake_alt a r))) (sym (bodies-at (water_in g) g.names g.rights r h (omega (arith, h, many))))
      ∙ ap (λ (i : ℕ). plain_by (is_lake (get_or g.names r (name []))) (get_or (intermediate g) r none) (alternatives g (lake_alt a i))) (let q : r ≡ 0 + r = omega arith in q)
      ∙ sym (plain_at g a g.names (intermediate g) 0 r h (omega (arith, h, mid)))
      ∙ get_d_any (plain_bodies g a) r (ter any) nowhere (omega (arith, h, long))

  -- and one that there is not
  past : (r : ℕ) → length g.names ≤ r → plain_body (water_in g) (stands_in false g a r) ≡ body_of (plain_bodies g a) r
  unfolding plain_body
  past r h = sym (get_or-eq_default (plain_bodies g a) nowhere {n = r} (omega (arith, h, long)))

  by_place : (r : ℕ) (b : Bool) → ltb r (length g.names) ≡ b → plain_body (water_in g) (stands_in b g a r) ≡ body_of (plain_bodies g a) r
  by_place r true e = there r (ltb-true r (length g.names) e)
  by_place r false e = past r (ltb-false r (length g.names) e)

  plain-bodies : Holds (plain_bodies g a) (meant_of g a)
  plain-bodies r = by_place r (ltb r (length g.names)) refl

-- of every grammar text
pub bodies-meant : (m : Mode) (t : List ℕ) → Holds (prepared m t).bodies (meant m t)
unfolding prepared prepared_by
bodies-meant m t = let g : Grammar = numbered (rules_of m t) in plain-bodies g (analysis g) (rights-many (rules_of m t)) (bodies-long (rules_of m t))

pub bodies-many : (m : Mode) (t : List ℕ) → length (prepared m t).bodies ≡ length (prepared m t).grammar.names
unfolding prepared prepared_by
bodies-many m t = bodies-long (rules_of m t)

-- so whatever the text means, its plain bodies mean, and nothing else
module _ (m : Mode) (t s : List ℕ) where
  same-meaning : plain_of (meant m t) ≡ plainly (prepared m t).bodies
  same-meaning = ap (λ (b : ℕ → SymbolBody). record { body = b; water = none }) (fun_ext (λ (r : ℕ). ap rule (bodies-meant m t r)))

  pub to-plain : {d p x : ℕ} {e : Exp ℕ} {ns : List Node} → Derives (meant m t) s d e p x ns → Derives (plainly (prepared m t).bodies) s d e p x ns
  to-plain {d} {p} {x} {e} {ns} h = subst (λ (k : Meant). Derives k s d e p x ns) same-meaning ((lakes-are-plain (meant m t) s d e p x ns).0 h)

  pub from-plain : {d p x : ℕ} {e : Exp ℕ} {ns : List Node} → Derives (plainly (prepared m t).bodies) s d e p x ns → Derives (meant m t) s d e p x ns
  from-plain {d} {p} {x} {e} {ns} h = (lakes-are-plain (meant m t) s d e p x ns).1 (subst (λ (k : Meant). Derives k s d e p x ns) (sym same-meaning) h)
