-- What writing leaves: as many words as before, the words behind the last node as they were, and the nodes themselves, which are read back.
-- Assumes nothing.
use Rattle.std.specs.Prelude.{ℕ, zero, suc, ◌+◌, ◌*◌, ◌≤◌, ◌<◌, ◌≡◌, refl, true, List, [], ◌∷◌, length, get_or, set}
use Rattle.std.proofs.Common.{ap, ap₂, subst, ◌∙◌, sym as flip, arith, length-set, get_or-set_same, get_or-set_other, le-leb}
use Rattle.std.proofs.lemmas.List.Edits.{sets}
use Rattle.std.proofs.Math.Seq.{length-sets}
use Rattle.read_tokens.specs.Bounds.{node_words}
use Rattle.grammar.specs.Exp.{Exp}
use Rattle.match_meaning.specs.Meaning.{Meant, Node, nd, Derives}
use Rattle.match_meaning.proofs.laws.Shape.{Spans, spans}
use Rattle.match_list.specs.Nodes.{Listing, all, deep, full, listing_of, in_words, put_node, written, if_all, words_of, room_of, node_word, node_at, nodes_at, sound_at, part_of, node_text}
use Rattle.match_list.proofs.laws.Cut.{IsAll, all_fit}

-- ── a run of words, stored from i on ──
sets-other : (ws : List ℕ) (i : ℕ) (vs : List ℕ) (j : ℕ) → (i ≤ j → j < i + length vs → ⊥) → get_or (sets ws i vs) j 0 ≡ get_or ws j 0
sets-other ws i [] j f = refl
sets-other ws i (v ∷ vs) j f =
    sets-other (set ws i v) (suc i) vs j (λ a b. f (omega (arith, a)) (omega (arith, b))) ∙ get_or-set_other ws i j v 0 (λ e. f (omega (arith, e)) (omega (arith, e)))

sets-at : (ws : List ℕ) (i : ℕ) (vs : List ℕ) (j : ℕ) → i + length vs ≤ length ws → j < length vs → get_or (sets ws i vs) (i + j) 0 ≡ get_or vs j 0
sets-at ws i [] j h l = absurd (omega arith)
sets-at ws i (v ∷ vs) zero h l =
    let e : i + 0 ≡ i = omega arith in
    ap (λ (x : ℕ). get_or (sets (set ws i v) (suc i) vs) x 0) e ∙ sets-other (set ws i v) (suc i) vs i (λ a b. omega (arith, a))
    ∙ get_or-set_same ws i v 0 (omega (arith, h))
sets-at ws i (v ∷ vs) (suc j) h l =
    let e : i + suc j ≡ suc i + j = omega arith in
    ap (λ (x : ℕ). get_or (sets (set ws i v) (suc i) vs) x 0) e
    ∙ sets-at (set ws i v) (suc i) vs j (rw (length-set ws i v) (omega (arith, h))) (omega (arith, l))

-- ── a node is one: it has so many words ──
many-words : (n : Node) → length (in_words n) ≡ node_words
unfolding in_words node_words
many-words n = refl

pub put-length : (ws : List ℕ) (k : ℕ) (n : Node) → length (put_node ws k n) ≡ length ws
unfolding put_node
put-length ws k n = length-sets ws (node_words * k) (in_words n)

-- a word of another node
put_other : (ws : List ℕ) (k : ℕ) (n : Node) (i : ℕ) → (node_words * k ≤ i → i < node_words * suc k → ⊥) → get_or (put_node ws k n) i 0 ≡ get_or ws i 0
unfolding put_node node_words
put_other ws k n i f = sets-other ws (node_words * k) (in_words n) i (λ a b. f a (omega (arith, b, many-words n)))

-- word j of a node that is written
put_word : (ws : List ℕ) (k : ℕ) (n : Node) (j : ℕ) → node_words * suc k ≤ length ws → j < node_words → node_word (put_node ws k n) k j ≡ get_or (in_words n) j 0
unfolding put_node node_words
put_word ws k n j h l = sets-at ws (node_words * k) (in_words n) j (omega (arith, h, many-words n)) (omega (arith, l, many-words n))

pub written-length : (ws : List ℕ) (k : ℕ) (ns : List Node) → length (written ws k ns) ≡ length ws
unfolding written
written-length ws k [] = refl
written-length ws k (n ∷ ns) = written-length (put_node ws k n) (suc k) ns ∙ put-length ws k n

-- before node k and behind the last one nothing changes
pub written-before : (ws : List ℕ) (k : ℕ) (ns : List Node) (i : ℕ) → i < node_words * k → get_or (written ws k ns) i 0 ≡ get_or ws i 0
unfolding written node_words
written-before ws k [] i h = refl
written-before ws k (n ∷ ns) i h = written-before (put_node ws k n) (suc k) ns i (omega arith) ∙ put_other ws k n i (λ a b. omega arith)

pub written_behind : (ws : List ℕ) (k : ℕ) (ns : List Node) (i : ℕ) → node_words * (k + length ns) ≤ i → get_or (written ws k ns) i 0 ≡ get_or ws i 0
unfolding written node_words
written_behind ws k [] i h = refl
written_behind ws k (n ∷ ns) i h = written_behind (put_node ws k n) (suc k) ns i (omega arith) ∙ put_other ws k n i (λ a b. omega arith)

same-node : {a b c d a' b' c' d' : ℕ} → a ≡ a' → b ≡ b' → c ≡ c' → d ≡ d' → nd a b c d ≡ nd a' b' c' d'
same-node e f g i = rw (e, f, g, i)

put-node : (ws : List ℕ) (k : ℕ) (n : Node) → node_words * suc k ≤ length ws → node_at (put_node ws k n) k ≡ n
unfolding node_at node_words in_words
put-node ws k n h =
    same-node {a' = n.symbol} {b' = n.start} {c' = n.end} {d' = n.depth} (put_word ws k n 0 h (omega arith)) (put_word ws k n 1 h (omega arith))
    (put_word ws k n 2 h (omega arith)) (put_word ws k n 3 h (omega arith))

-- nodes that are written later leave this one as it is
later-node : (ws : List ℕ) (k : ℕ) (ns : List Node) → node_at (written ws (suc k) ns) k ≡ node_at ws k
unfolding node_at node_words
later-node ws k ns =
    same-node (written-before ws (suc k) ns (node_words * k + 0) (omega arith)) (written-before ws (suc k) ns (node_words * k + 1) (omega arith))
    (written-before ws (suc k) ns (node_words * k + 2) (omega arith)) (written-before ws (suc k) ns (node_words * k + 3) (omega arith))

-- what was written is read back
pub read_back : (ws : List ℕ) (k : ℕ) (ns : List Node) → node_words * (k + length ns) ≤ length ws → nodes_at (written ws k ns) k (length ns) ≡ ns
unfolding written nodes_at node_words
read_back ws k [] h = refl
read_back ws k (n ∷ ns) h =
    ap₂ ◌∷◌ (later-node (put_node ws k n) k ns ∙ put-node ws k n (omega arith)) (read_back (put_node ws k n) (suc k) ns (rw (put-length ws k n) (omega arith)))

-- ── of a match ──
if-both : (P : List ℕ → Type 0) (l : Listing) (a b : List ℕ) → P a → P b → P (if_all l a b)
if-both P (all k) a b h g = h
if-both P (deep k) a b h g = g
if-both P (full k) a b h g = g

pub words-length : (room : ℕ) (ws : List ℕ) (ns : List Node) → length (words_of room ws ns) ≡ length ws
unfolding words_of
words-length room ws ns = if-both (λ (l : List ℕ). length l ≡ length ws) (listing_of room 0 ns) (written ws 0 ns) ws (written-length ws 0 ns) refl

-- "node words .. behind the last one written, stay as they were"
pub words-behind : (room : ℕ) (ws : List ℕ) (ns : List Node) (i : ℕ) → node_words * length ns ≤ i → get_or (words_of room ws ns) i 0 ≡ get_or ws i 0
unfolding words_of node_words
words-behind room ws ns i h = if-both (λ (l : List ℕ). get_or l i 0 ≡ get_or ws i 0) (listing_of room 0 ns) (written ws 0 ns) ws (written_behind ws 0 ns i (omega arith)) refl

if-refused : (l : Listing) (a b : List ℕ) → (IsAll l → ⊥) → if_all l a b ≡ b
if-refused (all k) a b f = absurd (f tt)
if-refused (deep k) a b f = refl
if-refused (full k) a b f = refl

-- a refusal leaves every word as it was
pub words-refused : (room : ℕ) (ws : List ℕ) (ns : List Node) → (IsAll (listing_of room 0 ns) → ⊥) → words_of room ws ns ≡ ws
unfolding words_of
words-refused room ws ns f = if-refused (listing_of room 0 ns) (written ws 0 ns) ws f

pub if-all : (l : Listing) (a b : List ℕ) → IsAll l → if_all l a b ≡ a
if-all (all k) a b i = refl
if-all (deep k) a b i = absurd i
if-all (full k) a b i = absurd i

-- the room that the words have
pub room_fits : (ws : List ℕ) → node_words * room_of ws ≤ length ws
unfolding room_of node_words
room_fits ws = omega arith

-- without a refusal the whole list stands in the words
pub words_back : (ws : List ℕ) (ns : List Node) → IsAll (listing_of (room_of ws) 0 ns) → nodes_at (words_of (room_of ws) ws ns) 0 (length ns) ≡ ns
unfolding words_of node_words
words_back ws ns i =
    ap (λ (l : List ℕ). nodes_at l 0 (length ns)) (if-all (listing_of (room_of ws) 0 ns) (written ws 0 ns) ws i)
    ∙ read_back ws 0 ns (omega (arith, (all_fit (room_of ws) 0 ns (omega arith) i).1, room_fits ws))

-- each node that stands in the words is sound where its text is: it lies whole in them, with start ≤ end ≤ n
sound-by : (ws : List ℕ) (k n : ℕ) → node_words * suc k ≤ length ws → (node_at ws k).start ≤ (node_at ws k).end → (node_at ws k).end ≤ n → sound_at ws k n ≡ true
unfolding sound_at
sound-by ws k n h i j = rw (le-leb (node_words * suc k) (length ws) h, le-leb (node_at ws k).start (node_at ws k).end i, le-leb (node_at ws k).end n j)

pub nodes-sound : (ws : List ℕ) (k c n : ℕ) → node_words * (k + c) ≤ length ws → Spans n (nodes_at ws k c) → (j : ℕ) → j < c → sound_at ws (k + j) n ≡ true
unfolding nodes_at node_words
nodes-sound ws k zero n h f j l = absurd (omega arith)
nodes-sound ws k (suc c) n h f zero l = subst (λ (i : ℕ). sound_at ws i n ≡ true) (omega arith) (sound-by ws k n (omega arith) f.0 f.1)
nodes-sound ws k (suc c) n h f (suc j) l = subst (λ (i : ℕ). sound_at ws i n ≡ true) (omega arith) (nodes-sound ws (suc k) c n (omega arith) f.2 j (omega arith))

-- so every node of a match that is listed is sound
pub match-sound : {g : Meant} {s : List ℕ} {d p x : ℕ} {e : Exp ℕ} {ns : List Node} (ws : List ℕ) → p ≤ length s → Derives g s d e p x ns → IsAll (listing_of (room_of ws) 0 ns)
    → (j : ℕ) → j < length ns → sound_at (words_of (room_of ws) ws ns) j (length s) ≡ true
unfolding node_words
match-sound {g} {s} {ns = ns} ws h t i j l =
    subst (λ (k : ℕ). sound_at (words_of (room_of ws) ws ns) k (length s) ≡ true) (omega arith)
    (nodes-sound (words_of (room_of ws) ws ns) 0 (length ns) (length s) (omega (arith, words-length (room_of ws) ws ns, (all_fit (room_of ws) 0 ns (omega arith) i).1, room_fits ws))
    (subst (λ (l : List Node). Spans (length s) l) (flip (words_back ws ns i)) (spans g s t h)) j l)

node_at_lem : (ws : List ℕ) (k c j : ℕ) (z : Node) → j < c → node_at ws (k + j) ≡ get_or (nodes_at ws k c) j z
unfolding nodes_at
node_at_lem ws k zero j z l = absurd (omega arith)
node_at_lem ws k (suc c) zero z l = ap (node_at ws) (omega arith)
node_at_lem ws k (suc c) (suc j) z l = ap (node_at ws) (omega arith) ∙ node_at_lem ws (suc k) c j z (omega arith)

-- node j of the words is node j of the list
pub match-node : (ws : List ℕ) (ns : List Node) (z : Node) → IsAll (listing_of (room_of ws) 0 ns) → (j : ℕ) → j < length ns → node_at (words_of (room_of ws) ws ns) j ≡ get_or ns j z
match-node ws ns z i j l =
    ap (node_at (words_of (room_of ws) ws ns)) (omega arith) ∙ node_at_lem (words_of (room_of ws) ws ns) 0 (length ns) j z l ∙ ap (λ (x : List Node). get_or x j z) (words_back ws ns i)

-- and its text is that part of the input
pub match-text : {g : Meant} {s : List ℕ} {d p x : ℕ} {e : Exp ℕ} {ns : List Node} (ws : List ℕ) (z : Node) → p ≤ length s → Derives g s d e p x ns → IsAll (listing_of (room_of ws) 0 ns)
    → (j : ℕ) → j < length ns → node_text s (words_of (room_of ws) ws ns) j ≡ part_of s (get_or ns j z)
unfolding node_text
match-text {s = s} {ns = ns} ws z h t i j l = rw (match-sound ws h t i j l) (ap (part_of s) (match-node ws ns z i j l))
