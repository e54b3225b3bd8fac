-- How deep parentheses nest in a plain text: at most one more than in the lake grammar, for a copy of water; 33 at most (01, Notation: the bounds). Assumes nothing.
use Rattle.std.specs.Prelude.{ℕ, zero, suc, ◌+◌, ◌≤◌, max, ◌≡◌, Bool, true, false, ◌&&◌, get_or, replicate}
use Rattle.std.proofs.Math.Path.{refl}
use Rattle.std.proofs.Common.{ap, ap₂, ◌∙◌}
use Rattle.std.proofs.Math.Bool.{not}
use mathlib.Core.List.{List, [], ◌∷◌, ◌++◌, map}
use Rattle.std.proofs.Math.Option.{Option, none, some}
use native.Mathlib.Omega.{arith}
use Rattle.read_tokens.specs.declared.Mode.{Mode}
use Rattle.read_tokens.specs.declared.Mode.TheVariants.{Lake, Plain}
use Rattle.read_tokens.specs.Token.{Symbol, name, lake, Leaf}
use Rattle.read_tokens.specs.Bounds.{open_bound}
use Rattle.grammar.specs.Exp.{Exp, Rule, sym, ter, seq, alt, opt, star, plus, ahead, never, rename}
use Rattle.grammar.specs.Lakes.{step_one, choice_of, skip_of, step_two}
use Rattle.grammar.specs.Same.{same_symbol, index_of}
use Rattle.grammar.specs.Numbers.{Grammar, is_lake, right_by}
use Rattle.base_words.specs.Set.{member_of}
use Rattle.lake_step_one.specs.Intermediate.{intermediate_by, bodies_by}
use Rattle.lake_rules.specs.Analysis.{Analysis, lake_alt}
use Rattle.lake_plain.specs.Plain.{nonterminals_in, terminals_in, alternatives, right_or, plain_by, plain_from, rules_by}
use Rattle.grammar_table.specs.laws.Rows.{All}
use Rattle.write_rules.proofs.laws.Pairs.{Levels, conc, written}
use Rattle.write_rules.proofs.laws.Depth.{peak, deep_c, deep_s, deep_p, deep_f, deep_q, peak-c, shallow}
use Rattle.write_text.specs.laws.Fit.{FitName, join}

-- ── rules and their right sides ──
abbrev pub ShallowBy : ℕ → Rule → Type 0
ShallowBy k r = deep_c (conc r.right).c ≤ k

one_more : (r : Rule) (rs : List Rule) → peak 0 (written (r ∷ rs)) ≡ max (deep_c (conc r.right).c) (peak 0 (written rs))
unfolding written
one_more r rs = peak-c (conc r.right).c 0 (written rs) ∙ omega arith

pub peak-of : (k : ℕ) (rs : List Rule) → All (ShallowBy k) rs → peak 0 (written rs) ≤ k
unfolding written
peak-of k [] a = omega arith
peak-of k (r ∷ rs) a = omega (arith, one_more r rs, a.0, peak-of k rs a.1)

pub of-peak : (k : ℕ) (rs : List Rule) → peak 0 (written rs) ≤ k → All (ShallowBy k) rs
of-peak k [] h = tt
of-peak k (r ∷ rs) h = (omega (arith, one_more r rs, h), of-peak k rs (omega (arith, one_more r rs, h)))

-- ── names do not matter ──
record Alike (a b : Levels) : Type 0 where
  c : deep_c a.c ≡ deep_c b.c
  s : deep_s a.s ≡ deep_s b.s
  p : deep_p a.p ≡ deep_p b.p
  f : deep_f a.f ≡ deep_f b.f
  q : deep_q a.q ≡ deep_q b.q

alike : (k : Symbol → Symbol) (e : Exp Symbol) → Alike (conc (rename k e)) (conc e)
unfolding rename conc
alike k (sym h) = record { c = refl; s = refl; p = refl; f = refl; q = refl }
alike k (ter x) = record { c = refl; s = refl; p = refl; f = refl; q = refl }
alike k (seq a b) = let u = ap₂ max (alike k a).s (alike k b).p in let v = ap suc u in record { c = u; s = u; p = v; f = v; q = v }
alike k (alt a b) = let u = ap₂ max (alike k a).c (alike k b).s in let v = ap suc u in record { c = u; s = v; p = v; f = v; q = v }
alike k (opt a) = let u = (alike k a).q in record { c = u; s = u; p = u; f = u; q = ap suc u }
alike k (star a) = let u = (alike k a).q in record { c = u; s = u; p = u; f = u; q = ap suc u }
alike k (plus a) = let u = (alike k a).q in record { c = u; s = u; p = u; f = u; q = ap suc u }
alike k (ahead a) = let u = (alike k a).f in record { c = u; s = u; p = u; f = ap suc u; q = ap suc u }
alike k (never a) = let u = (alike k a).f in record { c = u; s = u; p = u; f = ap suc u; q = ap suc u }

twice : {A B C : Type 0} (k : B → C) (j : A → B) (e : Exp A) → rename k (rename j e) ≡ rename (λ h. k (j h)) e
unfolding rename
twice k j (sym h) = refl
twice k j (ter x) = refl
twice k j (seq a b) = ap₂ seq (twice k j a) (twice k j b)
twice k j (alt a b) = ap₂ alt (twice k j a) (twice k j b)
twice k j (opt a) = ap opt (twice k j a)
twice k j (star a) = ap star (twice k j a)
twice k j (plus a) = ap plus (twice k j a)
twice k j (ahead a) = ap ahead (twice k j a)
twice k j (never a) = ap never (twice k j a)

-- ── the bodies, each symbol called by its number ──
module _ (k : ℕ → Symbol) where
  abbrev pub deep : Exp ℕ → ℕ
  deep e = deep_c (conc (rename k e)).c

  abbrev pub Upto : ℕ → Option (Exp ℕ) → Type 0
  Upto n none = Unit {0}
  Upto n (some e) = deep e ≤ n

  pub rights-upto : (n : ℕ) (names : List Symbol) (rs : List Rule) (j : ℕ) → All (ShallowBy n) rs → All (Upto n) (map (right_by names) rs ++ replicate j none)
  rights-upto n names [] zero a = tt
  rights-upto n names [] (suc j) a = (tt, rights-upto n names [] j a)
  rights-upto n names (r ∷ rs) j a = (
    omega (arith, ap (λ (e : Exp Symbol). deep_c (conc e).c) (twice k (λ h. index_of same_symbol h names) r.right), (alike (λ h. k (index_of same_symbol h names)) r.right).c, a.0),
    rights-upto n names rs j a.1,
  )

  pub right-upto : (n : ℕ) (os : List (Option (Exp ℕ))) (i : ℕ) → All (Upto n) os → Upto n (get_or os i none)
  right-upto n [] i a = tt
  right-upto n (o ∷ os) zero a = a.0
  right-upto n (o ∷ os) (suc i) a = right-upto n os i a.1

  -- where a sequence may stand, at most one more
  in-choice : (e : Exp ℕ) → deep_s (conc (rename k e)).s ≤ suc (deep e)
  in-choice e = let u = shallow (rename k e) in omega (arith, u.sp, u.pf, u.fq, u.qc)

  one-upto : (n : ℕ) (w o : Option (Exp ℕ)) → Upto n w → Upto n o → Upto (suc n) (step_one w o)
  unfolding step_one rename conc
  one-upto n none none u v = tt
  one-upto n none (some e) u v = omega (arith, v)
  one-upto n (some w) none u v = omega (arith, u)
  one-upto n (some w) (some e) u v = omega (arith, u, in-choice w, v)

  right_or_lem : (n : ℕ) (o : Option (Exp ℕ)) → Upto n o → deep (right_or o) ≤ n
  unfolding rename conc
  right_or_lem n none v = omega arith
  right_or_lem n (some e) v = v

  -- alternative symbols have no parentheses
  abbrev Flat : Exp ℕ → Type 0
  Flat e = deep_s (conc (rename k e)).s ≡ 0

  kept : (b : Bool) (e : Exp ℕ) (es : List (Exp ℕ)) → Flat e → All Flat es → All Flat (elim b as (λ c. List (Exp ℕ)) [ true ↦ e ∷ es | false ↦ es ])
  kept true e es f a = (f, a)
  kept false e es f a = a

  flat-symbols : (s : List ℕ) (i : ℕ) (hs : List Symbol) → All Flat (nonterminals_in s i hs)
  unfolding nonterminals_in rename conc
  flat-symbols s i [] = tt
  flat-symbols s i (h ∷ hs) = kept (member_of s i && not (is_lake h)) (sym i) (nonterminals_in s (suc i) hs) refl (flat-symbols s (suc i) hs)

  flat-terminals : (s : List ℕ) (i : ℕ) (xs : List Leaf) → All Flat (terminals_in s i xs)
  unfolding terminals_in rename conc
  flat-terminals s i [] = tt
  flat-terminals s i (x ∷ xs) = kept (member_of s (64 + i)) (ter x) (terminals_in s (suc i) xs) refl (flat-terminals s (suc i) xs)

  flat-all : (g : Grammar) (s : List ℕ) → All Flat (alternatives g s)
  unfolding alternatives
  flat-all g s = join Flat (nonterminals_in s 0 g.names) (terminals_in s 0 g.terminals) (flat-symbols s 0 g.names) (flat-terminals s 0 g.terminals)

  choice-flat : (a : Exp ℕ) (bs : List (Exp ℕ)) → deep a ≡ 0 → All Flat bs → deep (choice_of a bs) ≡ 0
  unfolding choice_of rename conc
  choice-flat a [] e f = e
  choice-flat a (b ∷ bs) e f = choice-flat (alt a b) bs (omega (arith, e, f.0)) f.1

  in-guard : (e : Exp ℕ) → deep_f (conc (rename k e)).f ≤ suc (deep e)
  in-guard e = let u = shallow (rename k e) in omega (arith, u.fq, u.qc)

  skip-flat : (ss : List (Exp ℕ)) → All Flat ss → deep_s (conc (rename k (skip_of ss))).s ≤ 1
  unfolding skip_of rename conc
  skip-flat [] f = omega arith
  skip-flat (a ∷ bs) f =
      omega (arith, in-guard (choice_of a bs), choice-flat a bs (let u = shallow (rename k a) in omega (arith, u.cs, f.0)) f.1)

  two-upto : (n : ℕ) (b : Option (Exp ℕ)) (ss : List (Exp ℕ)) → Upto n b → 1 ≤ n → All Flat ss → deep (step_two b ss) ≤ n
  unfolding step_two rename conc
  two-upto n none ss h l f = let u = shallow (rename k (skip_of ss)) in omega (arith, u.cs, skip-flat ss f, l)
  two-upto n (some b) ss h l f = omega (arith, h, l, skip-flat ss f)

  body-upto : (m : Mode) (h : Symbol) (w o : Option (Exp ℕ)) (ss : List (Exp ℕ)) → FitName m h → Upto (open_bound m) w → Upto (open_bound m) o → All Flat ss
      → deep (plain_by (is_lake h) (intermediate_by (is_lake h) w o) ss) ≤ 33
  unfolding open_bound
  body-upto Lake (name v) w o ss p u t f = omega (arith, right_or_lem 32 o t)
  body-upto Plain (name v) w o ss p u t f = right_or_lem 33 o t
  body-upto Lake (lake v) w o ss p u t f = two-upto 33 (step_one w o) ss (one-upto 32 w o u t) (omega arith) f
  body-upto Plain (lake v) w o ss p u t f = absurd p.0

  abbrev pub Within : Exp ℕ → Type 0
  Within e = deep e ≤ 33

  pub bodies-upto : (m : Mode) (g : Grammar) (a : Analysis) (w : Option (Exp ℕ)) (r : ℕ) (hs : List Symbol) (os : List (Option (Exp ℕ))) → Upto (open_bound m) w → All (FitName m) hs → All
      (Upto (open_bound m)) os
      → All Within (plain_from g a r hs (bodies_by w hs os))
  unfolding plain_from bodies_by
  bodies-upto m g a w r [] os u p q = tt
  bodies-upto m g a w r (h ∷ hs) [] u p q = tt
  bodies-upto m g a w r (h ∷ hs) (o ∷ os) u p q =
      (body-upto m h w o (alternatives g (lake_alt a r)) p.0 u q.0 (flat-all g (lake_alt a r)), bodies-upto m g a w (suc r) hs os u p.1 q.1)

  pub rules-upto : (es : List (Exp ℕ)) (r : ℕ) → All Within es → All (ShallowBy 33) (rules_by k r es)
  unfolding rules_by
  rules-upto [] r a = tt
  rules-upto (e ∷ es) r a = (a.0, rules-upto es (suc r) a.1)
