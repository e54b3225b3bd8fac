-- The numbers of a node's text are that part of the input which the public call answers, and what code makes of the node words. Assumes nothing.
use Rattle.std.specs.Prelude.{ℕ, ◌-◌, ◌*◌, ◌+◌, ◌≡◌, refl, Bool, true, false, cond, List, [], length, get_or, take, drop}
use Rattle.std.proofs.Common.{ap}
use Rattle.read_tokens.specs.Bounds.{node_words}
use Rattle.match_meaning.specs.Meaning.{Node}
use Rattle.match_list.specs.Nodes.{node_at, sound_at, part_of, node_text}
use Rattle.library_numbers.specs.Words.{four_words, span_by, span_words}

-- the part of s that such numbers say
abbrev pub part_said : List ℕ → List ℕ → List ℕ
part_said s w = take (get_or w 2 0) (drop (get_or w 1 0) s)

part_by : (s : List ℕ) (b : Bool) (x : Node) → part_said s (span_by b x) ≡ cond b (part_of s x) []
part_by s true x = refl
part_by s false x = refl

pub text-part : (s ws : List ℕ) (k : ℕ) → part_said s (span_words s ws k) ≡ node_text s ws k
unfolding node_text
text-part s ws k = part_by s (sound_at ws k (length s)) (node_at ws k)

module _ (s ws : List ℕ) (k : ℕ) where
  pub span_none : false ≡ sound_at ws k (length s) → four_words 0 0 0 0 ≡ span_words s ws k
  span_none h = ap (λ (b : Bool). span_by b (node_at ws k)) h

  pub span-some :
      (a b : ℕ) → a ≡ get_or ws (4 * k + 1) 0 → b ≡ get_or ws (4 * k + 2) 0 → true ≡ sound_at ws k (length s)
      → four_words 0 a (b - a) 0 ≡ span_words s ws k
  unfolding node_at node_words
  span-some a b start end h = rw (start, end) (ap (λ (x : Bool). span_by x (node_at ws k)) h)
