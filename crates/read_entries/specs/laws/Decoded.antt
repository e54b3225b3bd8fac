-- The words that are compared and stored one by one are those of the terminal's record (02, par. 3). Assumes nothing.
use Rattle.std.specs.Prelude.{ℕ, zero, suc, ◌+◌, ◌-◌, ◌≤◌, ◌≡◌, refl, Bool, drop}
use Rattle.std.proofs.Math.Path.{sym, ap}
use Rattle.std.proofs.Common.{Bor, ◌∙◌, arith, add-one, length-append}
use mathlib.Core.List.{List, ◌∷◌, ◌++◌, map, append-nil}
use Rattle.std.proofs.Math.ListN.{length, replicate}
use Rattle.std.proofs.lemmas.List.{length-map, length-replicate}
use Rattle.std.proofs.lemmas.List.Edits.{sets-eq}
use Rattle.read_tokens.specs.declared.Mode.{Mode}
use Rattle.read_tokens.specs.declared.Kind.{Kind}
use Rattle.read_tokens.specs.declared.Kind.TheVariants as kinds
use Rattle.read_tokens.specs.Chars.{char}
use Rattle.read_tokens.specs.steps.Code.{literal_from, class_at}
use Rattle.read_tokens.specs.laws.Classes.{at-256}
use Rattle.grammar_table.specs.Table.{terminal_words}
use Rattle.grammar_table.specs.steps.Rows.{cap}
use Rattle.grammar_table.specs.laws.Caps.{cap-le}
use Rattle.read_entries.specs.steps.Entries.{leaf_row, bit_of, leaf_at}
use Rattle.read_entries.specs.declared.leaves.Leaf.{Leaf}
use Rattle.read_entries.specs.declared.leaves.Leaf.TheVariants.{Any, Literal, Class}
use Rattle.read_entries.specs.steps.Leaves.{zeros, spelled, Stands, content_of, words_of}

-- ── rows ──
drop-zeros : (n m : ℕ) → n ≤ m → drop n (zeros m) ≡ zeros (m - n)
drop-zeros zero m h = ap (λ (k : ℕ). zeros k) (let e : m ≡ m - 0 = omega arith in e)
drop-zeros (suc n) zero h = absurd (omega arith)
drop-zeros (suc n) (suc m) h = drop-zeros n m (omega arith) ∙ ap (λ (k : ℕ). zeros k) (let e : m - n ≡ suc m - suc n = omega arith in e)

-- a record is its kind, its length, its words, and zeros behind them
pub decoded-row : (k n : ℕ) (w : List ℕ) → length w ≤ 256 → leaf_row k n w ≡ k ∷ n ∷ (w ++ zeros (256 - length w))
unfolding leaf_row
decoded-row k n w h =
    sets-eq w (k ∷ n ∷ zeros 256) 2 (omega (arith, length-replicate {A = ℕ} 256 0))
    ∙ ap (λ (x : ℕ). k ∷ n ∷ (w ++ drop x (k ∷ n ∷ zeros 256))) (let e : 2 + length w ≡ suc (suc (length w)) = omega arith in e)
    ∙ ap (λ (l : List ℕ). k ∷ n ∷ (w ++ l)) (drop-zeros (length w) 256 h)

pub literal-length : (n : ℕ) (s : List ℕ) (p : ℕ) → length (literal_from n s p) ≡ n
unfolding literal_from
literal-length zero s p = refl
literal-length (suc n) s p = ap suc (literal-length n s (p + (char (drop p s)).width))

-- ── which record ──
module _ (m : Mode) (s : List ℕ) (kind : Kind) (start size : ℕ) where
  pub decoded-literal : kind ≡ kinds.Literal → (text : Bor (List ℕ)) → text.now ≡ s → words_of (Literal text (start + 1) (cap 256 size)) ≡ leaf_at m s kind start size
  unfolding leaf_at words_of spelled
  decoded-literal e text f =
      ap (λ (l : List ℕ). 1 ∷ cap 256 size ∷ (literal_from (cap 256 size) l (start + 1) ++ zeros (256 - cap 256 size))) f
      ∙ ap (λ (x : ℕ). 1 ∷ cap 256 size ∷ (literal_from (cap 256 size) s x ++ zeros (256 - cap 256 size))) (add-one start)
      ∙ ap (λ (x : ℕ). 1 ∷ cap 256 size ∷ (literal_from (cap 256 size) s (suc start) ++ zeros (256 - x))) (sym (literal-length (cap 256 size) s (suc start)))
      ∙ sym (decoded-row 1 (cap 256 size) (literal_from (cap 256 size) s (suc start)) (omega (arith, literal-length (cap 256 size) s (suc start), cap-le size 256)))
      ∙ ap (λ (k : Kind). leaf_at m s k start size) (sym e)

  marks-long : length (map bit_of (class_at m s start).marks) ≡ 256
  marks-long = length-map (class_at m s start).marks bit_of ∙ at-256 m s start

  pub decoded-class : kind ≡ kinds.Class → (marks : Bor (List Bool)) → marks.now ≡ (class_at m s start).marks → words_of (Class marks) ≡ leaf_at m s kind start size
  unfolding leaf_at words_of
  decoded-class e marks f =
      ap (λ (l : List Bool). 2 ∷ 256 ∷ map bit_of l) f
      ∙ ap (λ (l : List ℕ). 2 ∷ 256 ∷ l) (sym (append-nil (map bit_of (class_at m s start).marks)))
      ∙ ap (λ (x : ℕ). 2 ∷ 256 ∷ (map bit_of (class_at m s start).marks ++ zeros x)) (let g : 0 ≡ 256 - length (map bit_of (class_at m s start).marks) = omega (arith, marks-long) in g)
      ∙ sym (decoded-row 2 256 (map bit_of (class_at m s start).marks) (omega (arith, marks-long)))
      ∙ ap (λ (k : Kind). leaf_at m s k start size) (sym e)

pub decoded-other : (m : Mode) (s : List ℕ) (kind : Kind) (start size : ℕ) → (kind ≡ kinds.Literal → ⊥) → (kind ≡ kinds.Class → ⊥) → words_of Any ≡ leaf_at m s kind start size
unfolding leaf_at words_of
decoded-other m s kinds.Literal start size a e = absurd (a refl)
decoded-other m s kinds.Class start size a e = absurd (e refl)
decoded-other m s kinds.End start size a e = refl
decoded-other m s kinds.Name start size a e = refl
decoded-other m s kinds.Lake start size a e = refl
decoded-other m s kinds.Any start size a e = refl
decoded-other m s kinds.Amp start size a e = refl
decoded-other m s kinds.Bang start size a e = refl
decoded-other m s kinds.Query start size a e = refl
decoded-other m s kinds.Asterisk start size a e = refl
decoded-other m s kinds.Cross start size a e = refl
decoded-other m s kinds.Arrow start size a e = refl
decoded-other m s kinds.Slash start size a e = refl
decoded-other m s kinds.Opens start size a e = refl
decoded-other m s kinds.Closes start size a e = refl
decoded-other m s kinds.Bad start size a e = refl

pub decoded-any : words_of Any ≡ replicate terminal_words 0
unfolding words_of
decoded-any = refl

-- a record has 258 words
pub content_long : (l : Leaf) → Stands l → length (content_of l) ≡ 256
unfolding spelled
content_long Any h = length-replicate {A = ℕ} 256 0
content_long (Literal text from n) h =
    omega (arith, length-append (literal_from n text.now from) (zeros (256 - n)), literal-length n text.now from, length-replicate {A = ℕ} (256 - n) 0, h.2)
content_long (Class marks) h = length-map marks.now bit_of ∙ h

pub words_long : (l : Leaf) → Stands l → length (words_of l) ≡ 258
unfolding words_of
words_long l h = ap (λ (x : ℕ). suc (suc x)) (content_long l h)
