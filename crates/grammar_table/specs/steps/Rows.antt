-- Records of words, one behind the other: which one is meant, the first that is it, and what a call that adds one leaves.
-- Assumes nothing: these are definitions.
use Rattle.std.specs.Prelude.{ℕ, zero, suc, ◌+◌, ◌-◌, ◌*◌, ◌≤◌, ◌<◌, ◌≡◌, Bool, true, false, cond, ◌&&◌, List, [], ◌∷◌, eqb, ltb, get_or, set}
use Rattle.std.proofs.lemmas.List.Edits.{sets}
use Rattle.grammar.specs.Same.{same_bytes}
use Rattle.grammar_table.specs.Table.{words_from}

-- the smaller of a bound and a number
unfoldable pub cap : ℕ → ℕ → ℕ
cap b a = cond (ltb a b) a b

-- the record at b is `rec`: its first word, and those from o up to the width w
unfoldable pub row_is : List ℕ → ℕ → List ℕ → ℕ → ℕ → Bool
row_is t b rec o w = eqb (get_or t b 0) (get_or rec 0 0) && same_bytes (words_from t (b + o) (w - o)) (words_from rec o (w - o))

-- the first of n records from b on that is `rec`; n where none is
unfoldable pub seek : List ℕ → List ℕ → ℕ → ℕ → ℕ → ℕ → ℕ
seek t rec o w b zero = 0
seek t rec o w b (suc n) = cond (row_is t b rec o w) 0 (suc (seek t rec o w (b + w) n))

-- how many records are kept, by the word that counts them
abbrev pub kept : List ℕ → ℕ → ℕ
kept t head = cap 64 (get_or t head 0)

-- the record's number, and the words afterwards: as they were where it is known; with the record and a new count; or with the count that says "more"
pub record Noted (old new rec : List ℕ) (head o w base r : ℕ) : Type 0 where
  pub number : r ≡ seek old rec o w base (kept old head)
  pub small : r ≤ 64
  pub known : r < kept old head → new ≡ old
  pub added : kept old head ≤ r → kept old head < 64 → new ≡ set (sets old (base + w * kept old head) (words_from rec 0 w)) head (kept old head + 1)
  pub over : kept old head ≤ r → 64 ≤ kept old head → new ≡ set old head 65
