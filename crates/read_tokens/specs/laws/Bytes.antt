-- "Text is bytes" (01, Notation): what that says of a list of numbers. Assumes nothing.
use Rattle.std.specs.Prelude.{ℕ, zero, suc, ◌<◌, List, [], ◌∷◌, ◌++◌, length, drop, get_or}
use Rattle.std.proofs.Common.{arith}

abbrev pub Bytes : List ℕ → Type 0
Bytes [] = Unit {0}
Bytes (c ∷ l) = (c < 256) × Bytes l

-- by places, as memory shows it
pub bytes_of : (l : List ℕ) → ((i : ℕ) → i < length l → get_or l i 0 < 256) → Bytes l
bytes_of [] h = tt
bytes_of (c ∷ l) h = (h 0 (omega arith), bytes_of l (λ i k. h (suc i) (omega arith)))

pub bytes-append : (l r : List ℕ) → Bytes l → Bytes r → Bytes (l ++ r)
bytes-append [] r h k = k
bytes-append (b ∷ l) r h k = (h.0, bytes-append l r h.1 k)

pub bytes_drop : (n : ℕ) (l : List ℕ) → Bytes l → Bytes (drop n l)
bytes_drop zero l h = h
bytes_drop (suc n) [] h = tt
bytes_drop (suc n) (b ∷ l) h = bytes_drop n l h.1
