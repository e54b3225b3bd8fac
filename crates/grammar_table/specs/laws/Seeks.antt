-- A search step by step, the three ways out of noting a record, and where there are too many one more changes nothing. Assumes nothing.
use Prim.Native.Nat.{ℕ, zero, suc, ◌+◌, ◌-◌, ◌*◌, ◌≤◌, ◌<◌}
use Rattle.std.specs.Prelude.{◌≡◌, refl, Bool, List, get_or, set}
use Rattle.std.proofs.Common.{sym, ◌∙◌, mul-suc, mul-le-mul_left}
use Rattle.std.proofs.Math.Path.{ap}
use Rattle.std.proofs.Math.Bool.{true, false, cond}
use native.Mathlib.Omega.{arith}
use Rattle.std.proofs.lemmas.List.Edits.{sets}
use Rattle.std.proofs.lemmas.List.{set-get_or}
use Rattle.grammar_table.specs.Table.{words_from}
use Rattle.grammar_table.specs.steps.Rows.{cap, row_is, seek, kept, Noted}
use Rattle.grammar_table.specs.laws.Caps.{cap-le, cap-high}

module _ (t rec : List ℕ) (o w : ℕ) where
  pub seek-within : (b n : ℕ) → seek t rec o w b n ≤ n
  unfolding seek
  seek-within b zero = omega arith
  seek-within b (suc n) = by (row_is t b rec o w) (seek-within (b + w) n)
    where
      by : (x : Bool) → seek t rec o w (b + w) n ≤ n → cond x 0 (suc (seek t rec o w (b + w) n)) ≤ suc n
      by true h = omega arith
      by false h = omega arith

-- ── the search ──
module _ (t rec : List ℕ) (o w : ℕ) where
  seek-by : (b n i j : ℕ) → n - i ≡ suc j → seek t rec o w b (n - i) ≡ cond (row_is t b rec o w) 0 (suc (seek t rec o w (b + w) j))
  unfolding seek
  seek-by b n i j e = ap (λ (x : ℕ). seek t rec o w b x) e

  pub seek_hit : (b n i : ℕ) → i < n → row_is t b rec o w ≡ true → i + seek t rec o w b (n - i) ≡ i
  seek_hit b n i h e =
      ap (λ (x : ℕ). i + x) (seek-by b n i (n - (i + 1)) (omega arith) ∙ ap (λ (x : Bool). cond x 0 (suc (seek t rec o w (b + w) (n - (i + 1))))) e)
      ∙ (let f : i + 0 ≡ i = omega arith in f)

  pub seek-on : (b n i : ℕ) → i < n → row_is t b rec o w ≡ false → i + seek t rec o w b (n - i) ≡ i + 1 + seek t rec o w (b + w) (n - (i + 1))
  seek-on b n i h e =
      ap (λ (x : ℕ). i + x) (seek-by b n i (n - (i + 1)) (omega arith) ∙ ap (λ (x : Bool). cond x 0 (suc (seek t rec o w (b + w) (n - (i + 1))))) e)
      ∙ omega arith

  pub seek-end : (b n i : ℕ) → n ≤ i → i + seek t rec o w b (n - i) ≡ i
  unfolding seek
  seek-end b n i h = let e : n - i ≡ 0 = omega arith in ap (λ (x : ℕ). i + seek t rec o w b x) e ∙ omega arith

  pub seek-whole : (b n : ℕ) → seek t rec o w b n ≡ 0 + seek t rec o w b (n - 0)
  seek-whole b n = let e : n ≡ n - 0 = omega arith in ap (λ (x : ℕ). seek t rec o w b x) e ∙ omega arith

-- ── where a record lies ──
pub left-on : (w n i : ℕ) → i < n → w * (n - i) ≡ w * (n - (i + 1)) + w
left-on w n i h = let e : n - i ≡ suc (n - (i + 1)) = omega arith in ap (λ (x : ℕ). w * x) e ∙ mul-suc w (n - (i + 1))

pub mul-le : (w a b : ℕ) → a ≤ b → w * a ≤ w * b
mul-le w a b h = mul-le-mul_left w h

-- ── the three ways out of `note` ──
module _ (old rec : List ℕ) (head o w base c n r : ℕ) (a : c ≡ get_or old head 0) (b : n ≡ cap 64 c) (f : r ≡ seek old rec o w base n) where
  here : n ≡ kept old head
  here = b ∙ ap (λ (x : ℕ). cap 64 x) a

  told : r ≡ seek old rec o w base (kept old head)
  told = f ∙ ap (λ (x : ℕ). seek old rec o w base x) here

  pub noted-known : r < n → Noted old old rec head o w base r
  noted-known h = record {
    number = told;
    small = omega (arith, f, seek-within old rec o w base n, b, cap-le c 64);
    known = λ _. refl;
    added = λ k l. absurd (omega (arith, here));
    over = λ k l. absurd (omega (arith, here));
  }

  pub noted-added : (new : List ℕ) → n ≤ r → n < 64 → new ≡ set (sets old (base + w * n) (words_from rec 0 w)) head (n + 1) → Noted old new rec head o w base r
  noted-added new h l e = record {
    number = told;
    small = omega (arith, f, seek-within old rec o w base n, b, cap-le c 64);
    known = λ k. absurd (omega (arith, here));
    added = λ _ _. e ∙ ap (λ (x : ℕ). set (sets old (base + w * x) (words_from rec 0 w)) head (x + 1)) here;
    over = λ _ k. absurd (omega (arith, here));
  }

  pub noted-over : (new : List ℕ) → n ≤ r → 64 ≤ n → new ≡ set old head 65 → Noted old new rec head o w base r
  noted-over new h l e = record {
    number = told;
    small = omega (arith, f, seek-within old rec o w base n, b, cap-le c 64);
    known = λ k. absurd (omega (arith, here));
    added = λ _ k. absurd (omega (arith, here));
    over = λ _ _. e;
  }

pub noted-full : (t rec : List ℕ) (head o w base : ℕ) → get_or t head 0 ≡ 65 → Noted t t rec head o w base (seek t rec o w base (kept t head))
noted-full t rec head o w base f =
    let most : 64 ≡ kept t head = cap-high (get_or t head 0) 64 (omega arith) in
    record {
      number = refl;
      small = omega (arith, seek-within t rec o w base (kept t head));
      known = λ _. refl;
      added = λ _ l. absurd (omega (arith, l));
      over = λ _ _. sym (ap (set t head) (sym f) ∙ set-get_or t head 0);
    }
