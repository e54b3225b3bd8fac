-- The lakes that cannot skip: bit l of the answer is set exactly if l is a lake with a nonterminal in its ALT whose body has ε (01, "Other calls": "the lakes with
-- a nonterminal in ALT whose body has ε"). Assumes nothing.
use Prim.Native.Nat.{ℕ, zero, suc, ◌+◌, ◌/◌, ◌*◌, ◌^◌, ◌≤◌, ◌<◌}
use Rattle.std.specs.Prelude.{◌≡◌, Bool, not, ◌&&◌, ◌||◌, List, [], ◌↔◌, ◌⊎◌, length, get_or}
use Rattle.std.proofs.Math.Path.{refl, ap}
use Rattle.std.proofs.Common.{sym, ◌∙◌, subst, true≢false, inl, inr, eq-or-lt_of_le}
use Rattle.std.proofs.Math.Bool.{true, false, cond}
use Rattle.std.proofs.Math.Option.{none}
use native.Mathlib.Omega.{arith}
use Rattle.std.proofs.Math.Nat.{pow-suc}
use Rattle.base_facts.specs.laws.Bools.{or-holds}
use Rattle.read_tokens.specs.declared.Mode.{Mode}
use Rattle.read_tokens.specs.Token.{Symbol, name}
use Rattle.grammar.specs.Numbers.{Grammar, is_lake}
use Rattle.base_words.specs.Set.{bit, member_of}
use Rattle.base_words.specs.laws.Members.{bit-step}
use Rattle.lake_rules.specs.Beginning.{marked}
use Rattle.lake_rules.specs.Analysis.{Analysis, lake_alt, blocked_by, cannot_skip_below, cannot_skip}
use Rattle.prepare.specs.Prepare.{prepared, refuses}
use Rattle.gurkenmond.specs.declared.Lakes.{Lakes}
use Rattle.gurkenmond.specs.Calls.{cannot_skip_of}
use Rattle.demands.proofs.laws.Sets.{cannot-skip-answered}

-- ── bits of a word that grows by its next power ──
top : (k w : ℕ) → w < 2 ^ k → bit (w + 2 ^ k) k ≡ 1
top zero w h = omega arith
top (suc k) w h =
    let e : 2 ^ suc k ≡ 2 ^ k * 2 = pow-suc 2 k in
    bit-step (w + 2 ^ suc k) k ∙ ap (λ (x : ℕ). bit x k) (let q : (w + 2 ^ suc k) / 2 ≡ w / 2 + 2 ^ k = omega (arith, e) in q) ∙ top k (w / 2) (omega (arith, e, h))

off : (k w : ℕ) → w < 2 ^ k → bit w k ≡ 0
off zero w h = omega arith
off (suc k) w h = let e : 2 ^ suc k ≡ 2 ^ k * 2 = pow-suc 2 k in bit-step w k ∙ off k (w / 2) (omega (arith, e, h))

low : (l k w : ℕ) → l < k → bit (w + 2 ^ k) l ≡ bit w l
low l zero w h = absurd (omega arith)
low zero (suc k) w h = let e : 2 ^ suc k ≡ 2 ^ k * 2 = pow-suc 2 k in omega (arith, e)
low (suc l) (suc k) w h =
    let e : 2 ^ suc k ≡ 2 ^ k * 2 = pow-suc 2 k in
    bit-step (w + 2 ^ suc k) l ∙ ap (λ (x : ℕ). bit x l) (let q : (w + 2 ^ suc k) / 2 ≡ w / 2 + 2 ^ k = omega (arith, e) in q) ∙ low l k (w / 2) (omega arith) ∙ sym (bit-step w l)

-- ── a nonterminal in the set whose body has ε ──
pub record Blocks (names : List Symbol) (marks : List Bool) (s : List ℕ) (n x : ℕ) : Type 0 where
  pub within : x < n
  pub member : member_of s x ≡ true
  pub nonterminal : is_lake (get_or names x (name [])) ≡ false
  pub empty : marked marks x ≡ true

module _ (names : List Symbol) (marks : List Bool) (s : List ℕ) where
  abbrev one : ℕ → Bool
  one x = member_of s x && (not (is_lake (get_or names x (name []))) && marked marks x)

  three : (n x : ℕ) → x < n → (a b c : Bool) → member_of s x ≡ a → is_lake (get_or names x (name [])) ≡ b → marked marks x ≡ c → (a && (not b && c)) ≡ true → Blocks names marks s n x
  three n x h true false true e f g z = record { within = h; member = e; nonterminal = f; empty = g }
  three n x h true false false e f g z = absurd (true≢false (sym z))
  three n x h true true c e f g z = absurd (true≢false (sym z))
  three n x h false b c e f g z = absurd (true≢false (sym z))

  later : (n : ℕ) → ((x : ℕ) × Blocks names marks s n x) → (x : ℕ) × Blocks names marks s (suc n) x
  later n w = (w.0, record { within = omega (arith, w.1.within); member = w.1.member; nonterminal = w.1.nonterminal; empty = w.1.empty })

  blocked-by : (n : ℕ) → blocked_by names marks s n ≡ true → (x : ℕ) × Blocks names marks s n x
  unfolding blocked_by
  blocked-by zero e = absurd (true≢false (sym e))
  blocked-by (suc n) e = go (one n) refl e (λ z. later n (blocked-by n z))
    where
      go : (b : Bool) → one n ≡ b → (b || blocked_by names marks s n) ≡ true → (blocked_by names marks s n ≡ true → (x : ℕ) × Blocks names marks s (suc n) x) → (x : ℕ) × Blocks names marks s (suc n) x
      go true f z next = (n, three (suc n) n (omega arith) _ _ _ refl refl refl f)
      go false f z next = next z

  one-is : (n x : ℕ) → Blocks names marks s n x → one x ≡ true
  one-is n x w =
      ap (λ (b : Bool). b && (not (is_lake (get_or names x (name []))) && marked marks x)) w.member
      ∙ ap (λ (b : Bool). not b && marked marks x) w.nonterminal ∙ w.empty

  by-blocked : (n x : ℕ) → Blocks names marks s n x → blocked_by names marks s n ≡ true
  unfolding blocked_by
  by-blocked zero x w = absurd (omega (arith, w.within))
  by-blocked (suc n) x w = go (eq-or-lt_of_le (let q : suc x ≤ suc n = w.within in q))
      (λ l. by-blocked n x (record { within = l; member = w.member; nonterminal = w.nonterminal; empty = w.empty }))
    where
      go : (suc x ≡ suc n) ⊎ (suc x < suc n) → (x < n → blocked_by names marks s n ≡ true) → (one n || blocked_by names marks s n) ≡ true
      go (inl e) f = let z : x ≡ n = omega (arith, e) in ap (λ (b : Bool). b || blocked_by names marks s n) (subst (λ (y : ℕ). one y ≡ true) z (one-is (suc n) x w))
      go (inr l) f = or-holds (one n) (blocked_by names marks s n) (f (omega (arith, l)))

-- ── the word ──
module _ (g : Grammar) (a : Analysis) where
  abbrev test : ℕ → Bool
  test n = is_lake (get_or g.names n (name [])) && blocked_by g.names a.marks (lake_alt a n) (length g.names)

  small : (n : ℕ) → cannot_skip_below g a n < 2 ^ n
  unfolding cannot_skip_below
  small zero = omega arith
  small (suc n) = go (test n) (small n)
    where
      go : (b : Bool) → cannot_skip_below g a n < 2 ^ n → cannot_skip_below g a n + cond b (2 ^ n) 0 < 2 ^ suc n
      go true h = let e : 2 ^ suc n ≡ 2 ^ n * 2 = pow-suc 2 n in omega (arith, e, h)
      go false h = let e : 2 ^ suc n ≡ 2 ^ n * 2 = pow-suc 2 n in omega (arith, e, h)

  word-bit : (n l : ℕ) → l < n → bit (cannot_skip_below g a n) l ≡ cond (test l) 1 0
  unfolding cannot_skip_below
  word-bit zero l h = absurd (omega arith)
  word-bit (suc n) l h = go (eq-or-lt_of_le (let q : suc l ≤ suc n = h in q)) (λ k. word-bit n l k)
    where
      here : (b : Bool) → bit (cannot_skip_below g a n + cond b (2 ^ n) 0) n ≡ cond b 1 0
      here true = top n (cannot_skip_below g a n) (small n)
      here false = ap (λ (x : ℕ). bit x n) (let q : cannot_skip_below g a n + 0 ≡ cannot_skip_below g a n = omega arith in q) ∙ off n (cannot_skip_below g a n) (small n)

      below : (b : Bool) → l < n → bit (cannot_skip_below g a n + cond b (2 ^ n) 0) l ≡ bit (cannot_skip_below g a n) l
      below true k = low l n (cannot_skip_below g a n) k
      below false k = ap (λ (x : ℕ). bit x l) (let q : cannot_skip_below g a n + 0 ≡ cannot_skip_below g a n = omega arith in q)

      go : (suc l ≡ suc n) ⊎ (suc l < suc n) → (l < n → bit (cannot_skip_below g a n) l ≡ cond (test l) 1 0) → bit (cannot_skip_below g a n + cond (test n) (2 ^ n) 0) l ≡ cond (test l) 1 0
      go (inl e) f = let z : n ≡ l = omega (arith, e) in subst (λ (y : ℕ). bit (cannot_skip_below g a n + cond (test n) (2 ^ n) 0) y ≡ cond (test y) 1 0) z (here (test n))
      go (inr k) f = below (test n) (omega (arith, k)) ∙ f (omega (arith, k))

  -- lake l has a nonterminal in ALT whose body has ε
  abbrev pub Cannot : ℕ → Type 0
  Cannot l = (is_lake (get_or g.names l (name [])) ≡ true) × ((x : ℕ) × Blocks g.names a.marks (lake_alt a l) (length g.names) x)

  bit-so : (l : ℕ) → (b c : Bool) → is_lake (get_or g.names l (name [])) ≡ b → blocked_by g.names a.marks (lake_alt a l) (length g.names) ≡ c → ◌≡◌ {A = ℕ} (cond (b && c) 1 0) 1 → Cannot l
  bit-so l true true e f z = (e, blocked-by g.names a.marks (lake_alt a l) (length g.names) f)
  bit-so l true false e f z = absurd (omega (arith, z))
  bit-so l false c e f z = absurd (omega (arith, z))

  so-bit : (l : ℕ) → Cannot l → test l ≡ true
  so-bit l w =
      ap (λ (b : Bool). b && blocked_by g.names a.marks (lake_alt a l) (length g.names)) w.0
      ∙ by-blocked g.names a.marks (lake_alt a l) (length g.names) w.1.0 w.1.1

  pub skip-bit : (l : ℕ) → l < length g.names → (bit (cannot_skip g a) l ≡ 1) ↔ Cannot l
  unfolding cannot_skip
  skip-bit l h = (
    λ e. bit-so l _ _ refl refl (sym (word-bit (length g.names) l h) ∙ e),
    λ w. word-bit (length g.names) l h ∙ ap (λ (b : Bool). cond b 1 0) (so-bit l w),
  )

  pub skip-behind : cannot_skip g a < 2 ^ length g.names
  unfolding cannot_skip
  skip-behind = small (length g.names)

-- on the public definition
module _ (m : Mode) (t : List ℕ) (ok : refuses m t ≡ none) where
  pub cannot-skip-bit : (l : ℕ) → l < length (prepared m t).grammar.names → (bit (cannot_skip_of m t).word l ≡ 1) ↔ Cannot (prepared m t).grammar (prepared m t).analysis l
  cannot-skip-bit l h =
      let e : (cannot_skip_of m t).word ≡ cannot_skip (prepared m t).grammar (prepared m t).analysis = ap (λ (x : Lakes). x.word) (cannot-skip-answered m t ok) in
      subst (λ (w : ℕ). (bit w l ≡ 1) ↔ Cannot (prepared m t).grammar (prepared m t).analysis l) (sym e) (skip-bit (prepared m t).grammar (prepared m t).analysis l h)

  -- no other bit is set
  pub cannot-skip-behind : (cannot_skip_of m t).word < 2 ^ length (prepared m t).grammar.names
  cannot-skip-behind =
      let e : (cannot_skip_of m t).word ≡ cannot_skip (prepared m t).grammar (prepared m t).analysis = ap (λ (x : Lakes). x.word) (cannot-skip-answered m t ok) in
      subst (λ (w : ℕ). w < 2 ^ length (prepared m t).grammar.names) (sym e) (skip-behind (prepared m t).grammar (prepared m t).analysis)
