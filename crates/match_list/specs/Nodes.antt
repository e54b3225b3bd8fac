-- The node list by the cells, the first node that offends, and the lent words (01, Meaning of a match; 01, Refusal numbers, 11 and 12).
-- Assumes nothing: these are definitions.
use Rattle.std.specs.Prelude.{ℕ, zero, suc, ◌+◌, ◌-◌, ◌*◌, ◌/◌, ◌≡◌, Bool, cond, ◌&&◌, List, [], ◌∷◌, ◌++◌, leb, ltb, length, get_or, take, drop}
use Rattle.std.proofs.lemmas.List.Edits.{sets}
use Rattle.read_tokens.specs.Bounds.{depth_bound, node_words}
use Rattle.grammar.specs.Exp.{Exp, sym, ter, seq, alt, opt, star, plus, ahead, never}
use Rattle.match_meaning.specs.Meaning.{Node, nd}
use Rattle.match_eval.specs.Eval.{body_of, cell_at, ev}

-- ── the list: by what a part takes, its nodes and those of what follows ──
unfoldable pub seq_n : ℕ → List Node → (ℕ → List Node) → List Node
seq_n zero a k = []
seq_n (suc m) a k = a ++ k m

-- "none from abandoned alternatives"
unfoldable pub alt_n : ℕ → List Node → List Node → List Node
alt_n zero a b = b
alt_n (suc m) a b = a

unfoldable pub opt_n : ℕ → List Node → List Node
opt_n zero a = []
opt_n (suc m) a = a

-- "that round is dropped with its nodes"
unfoldable pub step_n : ℕ → List Node → (ℕ → List Node) → List Node
step_n zero a k = []
step_n (suc zero) a k = []
step_n (suc (suc m)) a k = a ++ k (suc m)

unfoldable pub rep_n : ℕ → (ℕ → ℕ) → (ℕ → List Node) → ℕ → List Node
rep_n zero f w p = []
rep_n (suc k) f w p = step_n (f p) (w p) (λ m. rep_n k f w (p + m))

-- the nodes of an expression at a place: f is what an expression takes there, w the nodes of a symbol. "none from under `&` or `!`"
unfoldable pub walk_of : List ℕ → (Exp ℕ → ℕ → ℕ) → (ℕ → ℕ → List Node) → Exp ℕ → ℕ → List Node
walk_of s f w (sym r) p = w r p
walk_of s f w (ter x) p = []
walk_of s f w (seq a b) p = seq_n (f a p) (walk_of s f w a p) (λ m. walk_of s f w b (p + m))
walk_of s f w (alt a b) p = alt_n (f a p) (walk_of s f w a p) (walk_of s f w b p)
walk_of s f w (opt a) p = opt_n (f a p) (walk_of s f w a p)
walk_of s f w (star a) p = rep_n (length s) (λ q. f a q) (λ q. walk_of s f w a q) p
walk_of s f w (plus a) p = seq_n (f a p) (walk_of s f w a p) (λ m. rep_n (length s) (λ q. f a q) (λ q. walk_of s f w a q) (p + m))
walk_of s f w (ahead a) p = []
walk_of s f w (never a) p = []

unfoldable pub node_if : ℕ → (ℕ → List Node) → List Node
node_if zero k = []
node_if (suc m) k = k m

-- of symbol r at p and depth d, by the cells cs, in at most so many levels
module _ (bodies : List (Exp ℕ)) (s cs : List ℕ) where
  unfoldable pub nodes_of : ℕ → ℕ → ℕ → ℕ → List Node
  nodes_of zero d r p = []
  nodes_of (suc left) d r p =
      node_if (cell_at s cs (length bodies) r p)
      (λ m. nd r p (p + m) d ∷ walk_of s (λ e q. ev s cs (length bodies) e q) (λ x q. nodes_of left (suc d) x q) (body_of bodies r) p)

-- one level more than a list may have: the first node that is too deep is seen, and nothing below it
unfoldable pub levels : ℕ
levels = suc (suc depth_bound)

-- the list of the start symbol at the text's begin
unfoldable pub list_of : List (Exp ℕ) → List ℕ → List ℕ → List Node
list_of bodies s cs = nodes_of bodies s cs levels 0 0 0

-- ── the answer: the count of all nodes; or the number of the first that is too deep (refusal 11), or has no room (refusal 12) ──
pub data Listing : Type 0 where
  all deep full : ℕ → Listing

-- room is the count of nodes that there is room for, k the number of the list's first node.
-- "11 and 12: the first node in list order that offends, then 11"
unfoldable pub listing_of : ℕ → ℕ → List Node → Listing
listing_of room k [] = all k
listing_of room k (n ∷ ns) = cond (ltb depth_bound n.depth) (deep k) (cond (ltb k room) (listing_of room (suc k) ns) (full k))

-- ── the words ──
-- "four u32 words: symbol, start, end, depth"
unfoldable pub in_words : Node → List ℕ
in_words n = n.symbol ∷ n.start ∷ n.end ∷ n.depth ∷ []

-- node k is written
unfoldable pub put_node : List ℕ → ℕ → Node → List ℕ
put_node ws k n = sets ws (node_words * k) (in_words n)

-- the words after a list is written, its first node as node k
unfoldable pub written : List ℕ → ℕ → List Node → List ℕ
written ws k [] = ws
written ws k (n ∷ ns) = written (put_node ws k n) (suc k) ns

abbrev pub if_all : Listing → List ℕ → List ℕ → List ℕ
if_all (all k) a b = a
if_all (deep k) a b = b
if_all (full k) a b = b

-- the words after a match: a refusal leaves them as they were, "node words .. behind the last one written, stay as they were"
unfoldable pub words_of : ℕ → List ℕ → List Node → List ℕ
words_of room ws ns = if_all (listing_of room 0 ns) (written ws 0 ns) ws

-- how many nodes there is room for
unfoldable pub room_of : List ℕ → ℕ
room_of ws = length ws / node_words

-- ── reading them ──
-- word j of node k
abbrev pub node_word : List ℕ → ℕ → ℕ → ℕ
node_word ws k j = get_or ws (node_words * k + j) 0

unfoldable pub node_at : List ℕ → ℕ → Node
node_at ws k = nd (node_word ws k 0) (node_word ws k 1) (node_word ws k 2) (node_word ws k 3)

-- c nodes from number k on
unfoldable pub nodes_at : List ℕ → ℕ → ℕ → List Node
nodes_at ws k zero = []
nodes_at ws k (suc c) = node_at ws k ∷ nodes_at ws (suc k) c

-- "whether node k lies whole in the words with start ≤ end ≤ n"
unfoldable pub sound_at : List ℕ → ℕ → ℕ → Bool
sound_at ws k n = let x : Node = node_at ws k in leb (node_words * suc k) (length ws) && (leb x.start x.end && leb x.end n)

-- "the text of a node is handed back as that part of the lent input; for an unsound node, the empty part at 0"
abbrev pub part_of : List ℕ → Node → List ℕ
part_of s x = take (x.end - x.start) (drop x.start s)

unfoldable pub node_text : List ℕ → List ℕ → ℕ → List ℕ
node_text s ws k = cond (sound_at ws k (length s)) (part_of s (node_at ws k)) []

-- where that part begins, of an input of n bytes
unfoldable pub node_start : List ℕ → ℕ → ℕ → ℕ
node_start ws k n = cond (sound_at ws k n) (node_at ws k).start 0

-- "handed back as that part of the lent input": the bytes, and where the part points. An address is the number of a block and the place in it; the
-- input of which
-- a part is handed back points to `begin`
pub record Handed (part : List ℕ) (at : ℕ × ℕ) (s : List ℕ) (begin : ℕ × ℕ) (ws : List ℕ) (k : ℕ) : Type 0 where
  pub bytes : part ≡ node_text s ws k
  pub place : at ≡ (begin.0, begin.1 + node_start ws k (length s))
