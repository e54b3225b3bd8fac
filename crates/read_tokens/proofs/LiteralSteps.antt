-- One turn of the loop over a literal. Assumes nothing.
use Prim.Native.Nat.{ℕ, zero, suc, ◌+◌, ◌≤◌, ◌<◌}
use mathlib.Core.Path.{◌≡◌, refl, sym, ap, ◌∙◌}
use mathlib.Core.List.{List, [], ◌∷◌}
use native.Mathlib.Omega.{arith}
use native.Mathlib.Numerals.{add-one}
use lib.ListN.{length, drop, get_or, drop_of_length-le, length-map}
use borrow.Author.Tests.{eq-eqb, ne_eqb}
use Rattle.std.specs.Prelude.{Option, Some, None, unwrap_or}
use Rattle.read_tokens.specs.declared.Kind.TheVariants.{Bad, Literal}
use Rattle.read_tokens.specs.declared.chars.Char as declared
use Rattle.read_tokens.specs.declared.chars.Count.{Count}
use Rattle.read_tokens.specs.Chars.{char, Range, single, Body, shut, broken, also, by_width, body}
use Rattle.read_tokens.specs.Tokens.{low_of, literal_by, bad_at}
use Rattle.read_tokens.specs.steps.Code.{char_by, char_of, counted, coded, made}
use Rattle.read_tokens.specs.laws.Passing.{from, passed}
use Rattle.read_tokens.proofs.CharSteps.{suffix}

-- what a character that is there says, and one that is none
record There (r : declared.Char) (b w : ℕ) : Type 0 where
  pub byte : r.byte ≡ b
  pub width : r.width ≡ w
  pub some : w ≡ 0 → ⊥

there : {r : declared.Char} (b w : ℕ) → Some r ≡ char_by b w → There r b w
there b zero e = let z : ◌≡◌ {A = ℕ} 0 1 = cc in absurd (omega arith)
there {r} b (suc n) e =
    let f : r ≡ record { byte = b; width = suc n } = ap (λ (o : Option declared.Char). unwrap_or o r) e in
    record { byte = ap (λ (x : declared.Char). x.byte) f; width = ap (λ (x : declared.Char). x.width) f; some = λ z. omega arith }

missing : (b w : ℕ) → None ≡ char_by b w → w ≡ 0
missing b zero e = refl
missing b (suc n) e = let z : ◌≡◌ {A = ℕ} 0 1 = cc in absurd (omega arith)

pub width_of : {r : declared.Char} (l : List ℕ) → Some r ≡ char_of (char l) → r.width ≡ (char l).width
width_of l e = (there (char l).byte (char l).width e).width

pub byte_of : {r : declared.Char} (l : List ℕ) → Some r ≡ char_of (char l) → r.byte ≡ (char l).byte
byte_of l e = (there (char l).byte (char l).width e).byte

pub wide : {r : declared.Char} (l : List ℕ) → Some r ≡ char_of (char l) → r.width ≡ 0 → ⊥
wide l e z = (there (char l).byte (char l).width e).some (sym (width_of l e) ∙ z)

pub width-none : (l : List ℕ) → None ≡ char_of (char l) → (char l).width ≡ 0
width-none l e = missing (char l).byte (char l).width e

abbrev count : ℕ → ℕ → Option Count
count n e = Some (record { count = n; next = e })

module _ (q : ℕ) (s : List ℕ) where
  pub at-end : (i n : ℕ) → length s ≤ i → None ≡ counted n (from q single s i)
  unfolding body
  at-end i n h = rw (drop_of_length-le s h)

  pub at-quote : (i n : ℕ) → i < length s → get_or s i 0 ≡ q → count n (i + 1) ≡ counted n (from q single s i)
  unfolding body
  at-quote i n h e = rw (suffix s i h, eq-eqb (get_or s i 0) q e) (same (omega arith) (omega arith))
    where
      same : {a b c d : ℕ} → a ≡ b → c ≡ d → count a c ≡ count b d
      same x y = λ j. count (x j) (y j)

  turned : (i b : ℕ) (l : List ℕ) → drop i s ≡ b ∷ l → (b ≡ q → ⊥) → (w : ℕ) → (char (drop i s)).width ≡ w
      → (r : Range) × (from q single s i ≡ by_width w r (λ k. body q single k (suc i) l))
  unfolding body single
  turned i b l d f w e = (
    (single (b ∷ l)).span,
    rw (d, ne_eqb b q f) (ap (λ (x : ℕ). by_width x (single (b ∷ l)).span (λ k. body q single k (suc i) l)) (ap (λ (x : List ℕ). (char x).width) (sym d) ∙ e)),
  )

  pub no_char : (i n : ℕ) → i < length s → (get_or s i 0 ≡ q → ⊥) → None ≡ char_of (char (drop i s)) → None ≡ counted n (from q single s i)
  no_char i n h f e =
      let t = turned i (get_or s i 0) (drop (i + 1) s) (suffix s i h) f 0 (width-none (drop i s) e) in sym (ap (λ (o : Body). counted n o) t.1)

  also-counted : (n : ℕ) (r : Range) (o : Body) → counted n (also r o) ≡ counted (n + 1) o
  also-counted n r (shut rs e) = ap (λ (x : ℕ). count x e) (omega arith)
  also-counted n r broken = refl

  wide_char : (i n w : ℕ) → i < length s → (get_or s i 0 ≡ q → ⊥) → w ≡ (char (drop i s)).width → (w ≡ 0 → ⊥)
      → counted (n + 1) (from q single s (i + w)) ≡ counted n (from q single s i)
  wide_char i n zero h f e z = absurd (z refl)
  wide_char i n (suc k) h f e z =
      let t = turned i (get_or s i 0) (drop (i + 1) s) (suffix s i h) f (suc k) (sym e) in
      sym (
      ap (λ (o : Body). counted n o) t.1
      ∙ also-counted n t.0 (body q single k (suc i) (drop (i + 1) s))
      ∙ ap (λ (o : Body). counted (n + 1) o) (passed q single s i k)
      )

  pub one_char : (i n : ℕ) {r : declared.Char} → i < length s → (get_or s i 0 ≡ q → ⊥) → Some r ≡ char_of (char (drop i s))
      → counted (n + 1) (from q single s (i + r.width)) ≡ counted n (from q single s i)
  one_char i n {r} h f e = wide_char i n r.width h f (width_of (drop i s) e) (wide (drop i s) e)

-- ── the token ──
pub bad-is : (i : ℕ) → made Bad i (i + 1) 0 ≡ coded (bad_at i)
bad-is i = ap (λ (n : ℕ). made Bad i n 0) (add-one i)

pub literal-none : (i : ℕ) (o : Body) → None ≡ counted 0 o → coded (bad_at i) ≡ coded (literal_by i o)
unfolding literal_by
literal-none i broken e = refl
literal-none i (shut rs n) e = let z : ◌≡◌ {A = ℕ} 0 1 = cc in absurd (omega arith)

counts : {r : Count} (n e : ℕ) → Some r ≡ count n e → r ≡ record { count = n; next = e }
counts {r} n e f = ap (λ (o : Option Count). unwrap_or o r) f

pub literal-empty : {r : Count} (i : ℕ) (o : Body) → Some r ≡ counted 0 o → r.count ≡ 0 → coded (bad_at i) ≡ coded (literal_by i o)
unfolding literal_by
literal-empty i broken e z = let y : ◌≡◌ {A = ℕ} 0 1 = cc in absurd (omega arith)
literal-empty i (shut [] n) e z = refl
literal-empty i (shut (x ∷ rs) n) e z = absurd (omega (arith, sym z ∙ ap (λ (x : Count). x.count) (counts (0 + length (x ∷ rs)) n e)))

pub literal-some : {r : Count} (i : ℕ) (o : Body) → Some r ≡ counted 0 o → (r.count ≡ 0 → ⊥) → made Literal i r.next r.count ≡ coded (literal_by i o)
unfolding literal_by
literal-some i broken e z = let y : ◌≡◌ {A = ℕ} 0 1 = cc in absurd (omega arith)
literal-some i (shut [] n) e z = absurd (z (ap (λ (x : Count). x.count) (counts 0 n e)))
literal-some i (shut (x ∷ rs) n) e z =
    ap (λ (r : Count). made Literal i r.next r.count) (counts (0 + length (x ∷ rs)) n e) ∙ ap (λ (k : ℕ). made Literal i n k) (omega (arith, length-map rs low_of))
