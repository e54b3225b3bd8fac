-- A node list cut at a depth: what a walk of so many levels sees. Its first offender is that of the whole list, and without an offender nothing is cut.
-- Assumes nothing.
use Rattle.std.specs.Prelude.{ℕ, suc, ◌+◌, ◌≤◌, ◌<◌, ◌≡◌, refl, Bool, true, false, cond, List, [], ◌∷◌, ◌++◌, ltb, length}
use Rattle.std.proofs.Common.{ap, ◌∙◌, arith, lt-ltb, le-ltb, ltb-true, ltb-false}
use Rattle.read_tokens.specs.Bounds.{depth_bound}
use Rattle.match_meaning.specs.Meaning.{Node}
use Rattle.match_meaning.proofs.laws.Shape.{From, Climb}
use Rattle.match_list.specs.Nodes.{levels, Listing, all, deep, full, listing_of, written, if_all, words_of}

-- the nodes above depth c
unfoldable pub cut : ℕ → List Node → List Node
cut c [] = []
cut c (n ∷ ns) = cond (ltb n.depth c) (n ∷ cut c ns) (cut c ns)

pub cut-append : (c : ℕ) (ns ms : List Node) → cut c (ns ++ ms) ≡ cut c ns ++ cut c ms
unfolding cut
cut-append c [] ms = refl
cut-append c (n ∷ ns) ms = ap (λ (l : List Node). cond (ltb n.depth c) (n ∷ l) l) (cut-append c ns ms) ∙ keep (ltb n.depth c)
  where
    keep : (b : Bool) → cond b (n ∷ cut c ns ++ cut c ms) (cut c ns ++ cut c ms) ≡ cond b (n ∷ cut c ns) (cut c ns) ++ cut c ms
    keep true = refl
    keep false = refl

pub cut-none : (c d : ℕ) (ns : List Node) → c ≤ d → From d ns → cut c ns ≡ []
unfolding cut
cut-none c d [] h f = refl
cut-none c d (n ∷ ns) h f = rw (le-ltb n.depth c (omega (arith, f.0))) (cut-none c d ns h f.1)

pub cut_keeps : (c : ℕ) (n : Node) (ns : List Node) → n.depth < c → cut c (n ∷ ns) ≡ n ∷ cut c ns
unfolding cut
cut_keeps c n ns h = rw (lt-ltb n.depth c h)

-- ── the first offender, node by node: "11 and 12: the first node in list order that offends, then 11" (01, Refusal numbers) ──
pub listing-deep : (room k : ℕ) (n : Node) (ns : List Node) → depth_bound < n.depth → listing_of room k (n ∷ ns) ≡ deep k
unfolding listing_of
listing-deep room k n ns h = rw (lt-ltb depth_bound n.depth h)

pub listing_full : (room k : ℕ) (n : Node) (ns : List Node) → n.depth ≤ depth_bound → room ≤ k → listing_of room k (n ∷ ns) ≡ full k
unfolding listing_of
listing_full room k n ns h g = rw (le-ltb depth_bound n.depth h, le-ltb k room g)

pub listing-next : (room k : ℕ) (n : Node) (ns : List Node) → n.depth ≤ depth_bound → k < room → listing_of room k (n ∷ ns) ≡ listing_of room (suc k) ns
unfolding listing_of
listing-next room k n ns h g = rw (le-ltb depth_bound n.depth h, lt-ltb k room g)

-- what comes behind a node that is too deep does not count
listing_step : (room k : ℕ) (n : Node) (ns ms : List Node) (b : Bool) → ltb depth_bound n.depth ≡ b → (n.depth ≤ depth_bound → listing_of room (suc k) ns ≡ listing_of room (suc k) ms)
    → listing_of room k (n ∷ ns) ≡ listing_of room k (n ∷ ms)
unfolding listing_of
listing_step room k n ns ms true h f = rw h
listing_step room k n ns ms false h f = rw (h, f (ltb-false depth_bound n.depth h))

pub listing-cut : (room k b : ℕ) (ns : List Node) → b < levels → Climb b ns → listing_of room k (cut levels ns) ≡ listing_of room k ns
unfolding cut levels
listing-cut room k b [] h c = refl
listing-cut room k b (n ∷ ns) h c =
    ap (listing_of room k) (cut_keeps levels n ns (omega (arith, c.0)))
    ∙ listing_step room k n (cut levels ns) ns (ltb depth_bound n.depth) refl (λ l. listing-cut room (suc k) (suc n.depth) ns (omega (arith, l)) c.1)

abbrev pub IsAll : Listing → Type 0
IsAll (all k) = Unit
IsAll (deep k) = ⊥
IsAll (full k) = ⊥

-- in a list without an offender each node is high enough and has room
high-by : (room k : ℕ) (n : Node) (ns : List Node) (b c : Bool) → ltb depth_bound n.depth ≡ b → ltb k room ≡ c → IsAll (cond b (deep k) (cond c (listing_of room (suc k) ns) (full k)))
    → (n.depth ≤ depth_bound) × (k < room) × IsAll (listing_of room (suc k) ns)
high-by room k n ns true c h g i = absurd i
high-by room k n ns false true h g i = (ltb-false depth_bound n.depth h, ltb-true k room g, i)
high-by room k n ns false false h g i = absurd i

pub high : (room k : ℕ) (n : Node) (ns : List Node) → IsAll (listing_of room k (n ∷ ns)) → (n.depth ≤ depth_bound) × (k < room) × IsAll (listing_of room (suc k) ns)
unfolding listing_of
high room k n ns i = high-by room k n ns (ltb depth_bound n.depth) (ltb k room) refl refl i

-- the count is the list's length, and there is room for as many
pub all_fit : (room k : ℕ) (ns : List Node) → k ≤ room → IsAll (listing_of room k ns) → (listing_of room k ns ≡ all (k + length ns)) × (k + length ns ≤ room)
unfolding listing_of
all_fit room k [] l i = (ap all (omega arith), omega arith)
all_fit room k (n ∷ ns) l i =
    let h : (n.depth ≤ depth_bound) × (k < room) × IsAll (listing_of room (suc k) ns) = high room k n ns i in
    let r : (listing_of room (suc k) ns ≡ all (suc k + length ns)) × (suc k + length ns ≤ room) = all_fit room (suc k) ns h.1 h.2 in
    (listing-next room k n ns h.0 h.1 ∙ r.0 ∙ ap all (omega arith), omega (arith, r.1))

pub cut_all : (room k b : ℕ) (ns : List Node) → b < levels → Climb b ns → IsAll (listing_of room k ns) → cut levels ns ≡ ns
unfolding cut levels
cut_all room k b [] h c i = refl
cut_all room k b (n ∷ ns) h c i =
    let e : (n.depth ≤ depth_bound) × (k < room) × IsAll (listing_of room (suc k) ns) = high room k n ns i in
    cut_keeps levels n ns (omega (arith, c.0)) ∙ ap (λ (l : List Node). n ∷ l) (cut_all room (suc k) (suc n.depth) ns (omega (arith, e.0)) c.1 e.2)

if-same : (l : Listing) (a b c : List ℕ) → (IsAll l → a ≡ b) → if_all l a c ≡ if_all l b c
if-same (all k) a b c f = f tt
if-same (deep k) a b c f = refl
if-same (full k) a b c f = refl

pub words-cut : (room b : ℕ) (ws : List ℕ) (ns : List Node) → b < levels → Climb b ns → words_of room ws (cut levels ns) ≡ words_of room ws ns
unfolding words_of
words-cut room b ws ns h c =
    ap (λ (l : Listing). if_all l (written ws 0 (cut levels ns)) ws) (listing-cut room 0 b ns h c)
    ∙ if-same (listing_of room 0 ns) (written ws 0 (cut levels ns)) (written ws 0 ns) ws (λ i. ap (written ws 0) (cut_all room 0 b ns h c i))
