-- The lakes that cannot skip, over a table, are those of the grammar that it holds. Assumes nothing.
use Prim.Native.Nat.{ℕ, zero, suc, ◌+◌, ◌*◌, ◌^◌, ◌≤◌, ◌<◌}
use Rattle.std.specs.Prelude.{◌≡◌, Bool, true, false, not, ◌&&◌, length, take}
use Rattle.std.proofs.Math.Path.{refl, sym, ap, ap₂}
use Rattle.std.proofs.Common.{◌∙◌, subst, arith, add-one, pow-suc, get_or-take, ⊎_elim}
use Rattle.std.proofs.Math.Bool.{cond, ◌||◌}
use mathlib.Core.List.{List, []}
use Rattle.std.proofs.Math.ListN.{get_or}
use Rattle.std.proofs.Math.Pow.{pow-lt}
use Rattle.std.specs.Bool.{MatchBool}
use Rattle.std.specs.List.{range_with_len, AllWithin, HoldsAt}
use Rattle.std.proofs.lemmas.List.FromFn.{length-range_with_len, get_or-range_with_len}
use Rattle.base_facts.specs.laws.Numbers.{lt-or-ge}
use Rattle.base_words.specs.Set.{member_of}
use Rattle.read_tokens.specs.Token.{Symbol, name}
use Rattle.grammar.specs.Numbers.{Grammar, is_lake}
use Rattle.grammar_table.specs.Table.{symbol_count, expression_count, symbol_word, name_in}
use Rattle.grammar_table.specs.Holds.{Holds}
use Rattle.lake_rules.specs.Beginning.{marked}
use Rattle.lake_rules.specs.Analysis.{analysis, lake_alt, blocked_by, cannot_skip_below, cannot_skip}
use Rattle.lake_sets.specs.steps.Steps.{alt_in}
use Rattle.lake_step_one.specs.Proper.{Proper, middle}
use Rattle.lake_sets.specs.steps.Analysed.{Analysed}
use Rattle.grammar_table.specs.laws.Places.{up_to-at}
use Rattle.lake_sets.specs.laws.Told.{lake-alt-is}
use Rattle.lake_step_one.proofs.laws.Held.{by_kind, names-are}
use Rattle.lake_analysis.specs.steps.Lent.{lake_in, hit_in, blocked_in, skip_in, skips_in}

pub blocked-next : (t : List ℕ) (ms : List Bool) (s : List ℕ) (n : ℕ) → (hit_in t ms s n || blocked_in t ms s n) ≡ blocked_in t ms s (n + 1)
unfolding blocked_in
blocked-next t ms s n = rw add-one

pub blocked-none : (t : List ℕ) (ms : List Bool) (s : List ℕ) → false ≡ blocked_in t ms s 0
unfolding blocked_in
blocked-none t ms s = refl

-- one of the first n is hit, or none is
module _ (t : List ℕ) (ms : List Bool) (s : List ℕ) where
  blocked_some : (n k : ℕ) → k < n → hit_in t ms s k ≡ true → true ≡ blocked_in t ms s n
  unfolding blocked_in
  blocked_some zero k l e = absurd (omega arith)
  blocked_some (suc n) k l e =
      ⊎_elim (λ (q : k < n). go (hit_in t ms s n) (blocked_some n k q e)) (λ (q : n ≤ k). let z : k ≡ n = omega arith in
      sym (ap (λ (b : Bool). b || blocked_in t ms s n) (subst (λ (j : ℕ). hit_in t ms s j ≡ true) z e))) (lt-or-ge k n)
    where
      go : (b : Bool) → true ≡ blocked_in t ms s n → true ≡ (b || blocked_in t ms s n)
      go true h = refl
      go false h = h

  none_blocked : (n : ℕ) → ((k : ℕ) → k < n → hit_in t ms s k ≡ false) → false ≡ blocked_in t ms s n
  unfolding blocked_in
  none_blocked zero h = refl
  none_blocked (suc n) h =
      none_blocked n (λ k l. h k (omega arith)) ∙ sym (ap (λ (b : Bool). b || blocked_in t ms s n) (h n (omega arith)))

  pub blocked-by : (n : ℕ) (b : Bool) → MatchBool b ((k : ℕ) × (k < length (range_with_len 0 n)) × HoldsAt (λ j. hit_in t ms s j ≡ true) (range_with_len 0 n) k)
      (AllWithin (λ j. hit_in t ms s j ≡ false) (range_with_len 0 n) 0 (length (range_with_len 0 n))) → b ≡ blocked_in t ms s n
  blocked-by n true h =
      let l : h.0 < n = omega (arith, h.1, length-range_with_len 0 n) in
      blocked_some n h.0 l (subst (λ (j : ℕ). hit_in t ms s j ≡ true) (omega (arith, get_or-range_with_len 0 n h.0 0 l)) (h.2 0))
  blocked-by n false h = none_blocked n (λ k l.
      subst (λ (j : ℕ). hit_in t ms s j ≡ false) (omega (arith, get_or-range_with_len 0 n k 0 l)) (h k 0 (omega arith) (omega (arith, length-range_with_len 0 n))))

pub skips-next : (t : List ℕ) (ms : List Bool) (alts : List (List ℕ)) (r n : ℕ) → skips_in t ms alts r n + cond (skip_in t ms alts r n) (2 ^ n) 0 ≡ skips_in t ms alts r (n + 1)
unfolding skips_in
skips-next t ms alts r n = ap (skips_in t ms alts r) (sym (add-one n))

pub skips-none : (t : List ℕ) (ms : List Bool) (alts : List (List ℕ)) (r : ℕ) → 0 ≡ skips_in t ms alts r 0
unfolding skips_in
skips-none t ms alts r = refl

one_more : (b : Bool) (w n : ℕ) → w < 2 ^ n → w + cond b (2 ^ n) 0 < 2 ^ suc n
one_more true w n h = let e : 2 ^ suc n ≡ 2 ^ n * 2 = pow-suc 2 n in omega arith
one_more false w n h = let e : 2 ^ suc n ≡ 2 ^ n * 2 = pow-suc 2 n in omega arith

pub skips-lt : (t : List ℕ) (ms : List Bool) (alts : List (List ℕ)) (r n : ℕ) → skips_in t ms alts r n < 2 ^ n
unfolding skips_in
skips-lt t ms alts r zero = omega arith
skips-lt t ms alts r (suc n) = one_more (skip_in t ms alts r n) (skips_in t ms alts r n) n (skips-lt t ms alts r n)

-- there is room for bit n
pub room : (w n : ℕ) → w < 2 ^ n → n < 64 → w + 2 ^ n < 2 ^ 64
room w n h l =
    let e : 2 ^ suc n ≡ 2 ^ n * 2 = pow-suc 2 n in
    ⊎_elim (λ (p : suc n < 64). let m : 2 ^ suc n < 2 ^ 64 = pow-lt p in omega arith)
    (λ (p : 64 ≤ suc n). let q : suc n ≡ 64 = omega arith in let m : 2 ^ suc n ≡ 2 ^ 64 = ap (λ (j : ℕ). 2 ^ j) q in omega arith) (lt-or-ge (suc n) 64)

module _ (t : List ℕ) (g : Grammar) (h : Holds t (middle g)) (proper : Proper g) (ms : List Bool) (sets : List (List ℕ)) (eps : List Bool) (succ alts : List (List ℕ)) (k : ℕ)
    (a : Analysed (analysis g) (take (symbol_count t) ms) sets eps succ (take (expression_count t) alts) k) where
  abbrev R : ℕ
  R = length g.names

  pub lake-is : (n : ℕ) → n < R → lake_in t n ≡ is_lake (get_or g.names n (name []))
  unfolding name_in
  lake-is n l =
      sym (ap is_lake (ap (λ (ns : List Symbol). get_or ns n (name [])) (sym h.names) ∙ up_to-at (name_in t) (symbol_count t) n (name []) (omega (arith, names-are t (middle g) h)))
      ∙ by_kind (symbol_word t n 0) _)

  mark-is : (n : ℕ) → n < R → get_or ms n false ≡ marked (analysis g).marks n
  mark-is n l = sym (get_or-take (symbol_count t) ms n false (omega (arith, names-are t (middle g) h))) ∙ ap (λ (m : List Bool). get_or m n false) a.marks-is

  blocked-is : (s : List ℕ) (n : ℕ) → n ≤ R → blocked_in t ms s n ≡ blocked_by g.names (analysis g).marks s n
  unfolding blocked_in blocked_by
  blocked-is s zero l = refl
  blocked-is s (suc n) l =
      ap₂ ◌||◌ (ap₂ (λ (x y : Bool). member_of s n && (not x && y)) (lake-is n (omega arith)) (mark-is n (omega arith))) (blocked-is s n (omega arith))

  pub alt-is : (n : ℕ) → n < R → alt_in t alts n ≡ lake_alt (analysis g) n
  alt-is = lake-alt-is t g h proper alts a.alts-is

  skip_is : (n : ℕ) → n < R → skip_in t ms alts R n ≡ (is_lake (get_or g.names n (name [])) && blocked_by g.names (analysis g).marks (lake_alt (analysis g) n) R)
  skip_is n l =
      ap₂ ◌&&◌ (lake-is n l) (blocked-is (alt_in t alts n) R (omega arith) ∙ ap (λ (s : List ℕ). blocked_by g.names (analysis g).marks s R) (alt-is n l))

  skips-is : (n : ℕ) → n ≤ R → skips_in t ms alts R n ≡ cannot_skip_below g (analysis g) n
  unfolding skips_in cannot_skip_below
  skips-is zero l = refl
  skips-is (suc n) l = ap₂ ◌+◌ (skips-is n (omega arith)) (ap (λ (b : Bool). cond b (2 ^ n) 0) (skip_is n (omega arith)))

  pub skip-law : (r w : ℕ) → r ≡ symbol_count t → w ≡ skips_in t ms alts r r → w ≡ cannot_skip g (analysis g)
  unfolding cannot_skip
  skip-law r w e f =
      f ∙ ap (λ (n : ℕ). skips_in t ms alts n n) (e ∙ names-are t (middle g) h) ∙ skips-is R (omega arith)
