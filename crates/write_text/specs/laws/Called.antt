-- Names and terminals of bytes stay what they are when they are written: the names of a table's symbols, and its expressions with names. Assumes nothing.
use Rattle.std.specs.Prelude.{ℕ, zero, suc, ◌+◌, ◌*◌, ◌%◌, ◌<◌, ◌≡◌, refl, Bool, List, [], ◌∷◌, map, length, get_or}
use Rattle.std.proofs.Math.Path.{ap, ap₂}
use Rattle.std.proofs.Common.{◌∙◌, arith}
use Rattle.read_tokens.specs.Token.{Symbol, Leaf, name, lake, any, literal, class}
use Rattle.read_tokens.specs.laws.Bytes.{Bytes}
use Rattle.grammar.specs.Exp.{Exp, sym as uses, ter, seq, alt, opt, star, plus, ahead, never, rename}
use Rattle.grammar.specs.Numbers.{Grammar}
use Rattle.grammar_table.specs.Table.{symbols_at, symbol_words, symbol_word, symbol_by, words_from, name_in}
use Rattle.grammar_table.specs.Holds.{Holds}
use Rattle.lake_step_one.specs.Proper.{Sound}
use Rattle.write_leaves.specs.steps.Printed.{low, low_leaf, called_by, called, toned}
use Rattle.lake_calls.specs.laws.Rights.{name-is}

pub low-bytes : (w : List ℕ) → Bytes w → map low w ≡ w
low-bytes [] h = refl
low-bytes (b ∷ w) h = ap₂ ◌∷◌ (let z : b % 256 ≡ b = omega (arith, h.0) in z) (low-bytes w h.1)

-- a name's bytes, a literal's
abbrev pub BytesOf : Symbol → Type 0
BytesOf (name w) = Bytes w
BytesOf (lake w) = Bytes w

abbrev pub BytesIn : Leaf → Type 0
BytesIn any = Unit {0}
BytesIn (literal w) = Bytes w
BytesIn (class m) = Unit {0}

pub low-leaf : (x : Leaf) → BytesIn x → low_leaf x ≡ x
low-leaf any h = refl
low-leaf (literal w) h = ap literal (low-bytes w h)
low-leaf (class m) h = refl

abbrev low_name : Symbol → Symbol
low_name (name w) = name (map low w)
low_name (lake w) = lake (map low w)

low-name : (h : Symbol) → BytesOf h → low_name h ≡ h
low-name (name w) b = ap name (low-bytes w b)
low-name (lake w) b = ap lake (low-bytes w b)

low_by : (k : ℕ) (w : List ℕ) → symbol_by k (map low w) ≡ low_name (symbol_by k w)
low_by zero w = refl
low_by (suc k) w = refl

called-low : (p : Bool) (t : List ℕ) (r : ℕ) → called p t r ≡ called_by p (low_name (name_in t r))
unfolding called name_in
called-low p t r = ap (called_by p) (low_by (symbol_word t r 0) (words_from t (symbols_at + symbol_words * r + 4) (symbol_word t r 3)))

pub called_is : (p : Bool) (t : List ℕ) (g : Grammar) → Holds t g → (r : ℕ) → r < length g.names → BytesOf (get_or g.names r (name [])) → called p t r ≡ called_by p (get_or g.names r (name []))
called_is p t g h r l b = called-low p t r ∙ ap (λ (s : Symbol). called_by p (low_name s)) (name-is t g h r l) ∙ ap (called_by p) (low-name (get_or g.names r (name [])) b)

-- an expression by two namings that agree on its symbols
module _ (number : Leaf → ℕ) (n x : ℕ) (f k : ℕ → Symbol) (same : (r : ℕ) → r < n → f r ≡ k r) (leaves : (y : Leaf) → number y < x → low_leaf y ≡ y) where
  pub toned-is : (e : Exp ℕ) → Sound number n x e → toned f e ≡ rename k e
  unfolding toned rename
  toned-is (uses r) h = ap uses (same r h)
  toned-is (ter y) h = ap ter (leaves y h.0)
  toned-is (seq a b) h = ap₂ seq (toned-is a h.0) (toned-is b h.1)
  toned-is (alt a b) h = ap₂ alt (toned-is a h.0) (toned-is b h.1)
  toned-is (opt a) h = ap opt (toned-is a h)
  toned-is (star a) h = ap star (toned-is a h)
  toned-is (plus a) h = ap plus (toned-is a h)
  toned-is (ahead a) h = ap ahead (toned-is a h)
  toned-is (never a) h = ap never (toned-is a h)
