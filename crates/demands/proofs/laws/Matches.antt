-- Demand 2 on the answer of a match and its nodes: they are read off the one derivation that the start symbol has at 0 by the rules, lakes included
-- (01, Meaning of a match; 01, Refusal numbers, 11 and 12). Assumes nothing.
use Rattle.std.specs.Prelude.{ℕ, zero, suc, ◌+◌, ◌*◌, ◌≤◌, ◌<◌, ◌≡◌, refl, true, List, [], ◌∷◌, length, get_or}
use Rattle.std.proofs.Common.{ap, ap₂, ◌∙◌, subst, sym as flip, inl, inr, arith, length-append}
use Rattle.std.proofs.Math.Option.{none}
use Rattle.read_tokens.specs.Bounds.{input_bound, node_words}
use Rattle.read_tokens.specs.declared.Mode.{Mode}
use Rattle.grammar.specs.Exp.{Rule, sym}
use Rattle.grammar.specs.Syntax.{Rules, rule, more}
use Rattle.grammar.specs.Trees.{trees, tree_c, ruled}
use Rattle.grammar.specs.Numbers.{left_sides, loose_lakes, symbols_of, numbered}
use Rattle.read_syntax.specs.Reading.{rules_of}
use Rattle.write_text.specs.laws.Own.{lefts-long}
use Rattle.match_meaning.specs.Meaning.{Node, Derives}
use Rattle.match_meaning.proofs.laws.One.{one}
use Rattle.match_list.specs.Nodes.{Listing, deep, full, listing_of, words_of, room_of, nodes_at, sound_at, node_text, part_of}
use Rattle.match_list.proofs.laws.Cut.{IsAll}
use Rattle.match_list.proofs.laws.Words.{words-length, words-behind, words-refused, words_back, match-sound, match-text}
use Rattle.match_derived.specs.laws.Whole.{listed}
use Rattle.prepare.specs.Prepare.{prepared, prepared_by, refuses}
use Rattle.prepare.specs.laws.Reads.{grammar-read, clear-text}
use Rattle.gurkenmond.specs.Answers.{Says as Outcome, value as Matched, nomatch as NoMatch, refused as OutcomeRefused}
use Rattle.gurkenmond.specs.Calls.{MatchAnswer as Match, Matching, matching, cells_needed, listing_by, match_by, filled, match_of}
use Rattle.demands.specs.Meant.{meant}
use Rattle.demands.specs.Offends.{Fits, TooDeep, NoRoom}
use Rattle.demands.proofs.laws.Meant.{bodies-meant, bodies-many}
use Rattle.demands.proofs.laws.Offends.{fits_all, deep-first, full-first, OneOf, one_of}
use Rattle.demands.proofs.laws.Cells.{filled-as-meant, match-clear, cells-filled, cell-meant, cell-only}

-- ── "A grammar is one or more rules": there is a start symbol ──
some-rules : (g : Rules) → 0 < length (trees g)
unfolding trees
some-rules (rule h c) = omega arith
some-rules (more r h c) = omega (arith, length-append (trees r) (ruled h (tree_c c) ∷ []))

some-names : (rs : List Rule) → 0 < length rs → 0 < length (numbered rs).names
unfolding numbered symbols_of
some-names rs h = omega (arith, h, length-append (left_sides rs) (loose_lakes rs), lefts-long rs)

pub has-start : (m : Mode) (t : List ℕ) → refuses m t ≡ none → 0 < length (prepared m t).bodies
unfolding prepared prepared_by
has-start m t ok =
    let w = grammar-read m t (clear-text m t ok) in
    omega (arith, some-names (rules_of m t) (subst (λ (rs : List Rule). 0 < length rs) w.2 (some-rules w.0)), bodies-many m t)

-- ── a match that 1 to 10 do not refuse ──
module _ (m : Mode) (t s cs ws : List ℕ) (ok : refuses m t ≡ none) (short : length s ≤ input_bound) (room : cells_needed (prepared m t) s ≤ length cs) where
  abbrev result : Matching
  result = match_of m t s cs ws

  abbrev table : List ℕ
  table = filled (prepared m t) s cs

  start_cell : {x : ℕ} {ns : List Node} → Derives (meant m t) s 0 (sym 0) 0 x ns → get_or table 0 0 ≡ x
  start_cell d =
      let z : 0 ≡ 0 * length (prepared m t).bodies + 0 = omega arith in
      ap₂ (λ (c : List ℕ) (i : ℕ). get_or c i 0) (flip (cells-filled m t s cs ws ok short room)) z ∙ cell-only m t s cs ws ok short room (omega arith) (has-start m t ok) d

  -- the start symbol has one derivation at 0, with one node list
  pub start-meant : (x : ℕ) × (ns : List Node) × Derives (meant m t) s 0 (sym 0) 0 x ns
  start-meant = let w = cell-meant m t s cs ws ok short room 0 0 0 (omega arith) (has-start m t ok) in (_, w.0, w.1)

  pub start-one : {x y : ℕ} {ns ms : List Node} → Derives (meant m t) s 0 (sym 0) 0 x ns → Derives (meant m t) s 0 (sym 0) 0 y ms → (x ≡ y) × (ns ≡ ms)
  start-one a b = one (meant m t) s a b

  -- "No match" is an answer: no node written, cells filled
  pub not-matched : {ns : List Node} → Derives (meant m t) s 0 (sym 0) 0 0 ns → result ≡ matching 0 NoMatch table ws
  not-matched d = match-clear m t s cs ws ok short room ∙ ap (λ (x : ℕ). match_by x (prepared m t).bodies s table ws) (start_cell d)

  -- the start symbol takes k bytes, with these nodes
  module _ {k : ℕ} {ns : List Node} (d : Derives (meant m t) s 0 (sym 0) 0 (suc k) ns) where
    by-list : result ≡ listing_by k (listing_of (room_of ws) 0 ns) table (words_of (room_of ws) ws ns)
    by-list =
        let w = listed (prepared m t).bodies (meant m t) (bodies-meant m t) s table (filled-as-meant m t ok s cs room) (room_of ws) ws d in
        match-clear m t s cs ws ok short room ∙ ap (λ (x : ℕ). match_by x (prepared m t).bodies s table ws) (start_cell d)
        ∙ ap₂ (λ (l : Listing) (c : List ℕ). listing_by k l table c) w.0 w.1

    -- "11: node deeper than 255", its number; words untouched, "the cells hold the table"
    pub too-deep : {j : ℕ} → TooDeep (room_of ws) ns j → result ≡ matching 0 (OutcomeRefused 11 j) table ws
    too-deep {j} o =
        let e : listing_of (room_of ws) 0 ns ≡ deep j = deep-first o in
        by-list ∙ ap₂ (λ (l : Listing) (c : List ℕ). listing_by k l table c) e (words-refused (room_of ws) ws ns (λ i. subst IsAll e i))

    -- "12: no room for a node", its number
    pub no_room : {j : ℕ} → NoRoom (room_of ws) ns j → result ≡ matching 0 (OutcomeRefused 12 j) table ws
    no_room {j} o =
        let e : listing_of (room_of ws) 0 ns ≡ full j = full-first o in
        by-list ∙ ap₂ (λ (l : Listing) (c : List ℕ). listing_by k l table c) e (words-refused (room_of ws) ws ns (λ i. subst IsAll e i))

    -- matched to place k, with all nodes in the words
    module _ (fits : Fits (room_of ws) ns) where
      is_all : IsAll (listing_of (room_of ws) 0 ns)
      is_all = subst IsAll (flip (fits_all fits)) tt

      pub matched : result ≡ matching (length ns) (Matched k) table (words_of (room_of ws) ws ns)
      matched = by-list ∙ ap (λ (l : Listing). listing_by k l table (words_of (room_of ws) ws ns)) (fits_all fits)

      words_are : result.nodes ≡ words_of (room_of ws) ws ns
      words_are = ap (λ (x : Matching). x.nodes) matched

      -- read back, the words are the node list
      pub nodes-back : nodes_at result.nodes 0 (length ns) ≡ ns
      nodes-back = ap (λ (c : List ℕ). nodes_at c 0 (length ns)) words_are ∙ words_back ws ns is_all

      -- "node words .. behind the last one written, stay as they were"
      pub nodes-behind : (i : ℕ) → node_words * length ns ≤ i → get_or result.nodes i 0 ≡ get_or ws i 0
      nodes-behind i h = ap (λ (c : List ℕ). get_or c i 0) words_are ∙ words-behind (room_of ws) ws ns i h

      pub nodes-many : length result.nodes ≡ length ws
      nodes-many = ap length words_are ∙ words-length (room_of ws) ws ns

      -- each node is sound, and its text is that part of the input
      pub nodes-sound : (j : ℕ) → j < length ns → sound_at result.nodes j (length s) ≡ true
      nodes-sound j h = ap (λ (c : List ℕ). sound_at c j (length s)) words_are ∙ match-sound ws (omega arith) d is_all j h

      pub nodes-text : (z : Node) (j : ℕ) → j < length ns → node_text s result.nodes j ≡ part_of s (get_or ns j z)
      nodes-text z j h = ap (λ (c : List ℕ). node_text s c j) words_are ∙ match-text ws z (omega arith) d is_all j h

-- ── and back: what the answer says is so ──
abbrev taken_of : Outcome → ℕ
taken_of (Matched k) = suc k
taken_of NoMatch = 0
taken_of (OutcomeRefused n p) = 0

abbrev none_of : Outcome → ℕ
none_of (Matched k) = 0
none_of NoMatch = 1
none_of (OutcomeRefused n p) = 0

abbrev number_of : Outcome → ℕ
number_of (Matched k) = 0
number_of NoMatch = 0
number_of (OutcomeRefused n p) = n

abbrev place-of : Outcome → ℕ
place-of (Matched k) = 0
place-of NoMatch = 0
place-of (OutcomeRefused n p) = p

none-matched : {k : ℕ} → NoMatch ≡ Matched k → ⊥
none-matched {k} e = let q : 0 ≡ suc k = ap taken_of e in omega (arith, q)

refused-matched : {n p k : ℕ} → OutcomeRefused n p ≡ Matched k → ⊥
refused-matched {k = k} e = let q : 0 ≡ suc k = ap taken_of e in omega (arith, q)

none-refused : {n p : ℕ} → NoMatch ≡ OutcomeRefused n p → ⊥
none-refused e = let q : ◌≡◌ {A = ℕ} 1 0 = ap none_of e in omega (arith, q)

eleven-twelve : {i j : ℕ} → OutcomeRefused 11 i ≡ OutcomeRefused 12 j → ⊥
eleven-twelve e = let q : ◌≡◌ {A = ℕ} 11 12 = ap number_of e in omega (arith, q)

module _ (m : Mode) (t s cs ws : List ℕ) (ok : refuses m t ≡ none) (short : length s ≤ input_bound) (room : cells_needed (prepared m t) s ≤ length cs) where
  abbrev answer : Match
  answer = (match_of m t s cs ws).answer

  abbrev match-of : ℕ → Outcome → Match
  match-of c o = record { nodes = c; outcome = o }

  -- one of the four is so
  by_answer : (P : Match → Type 0)
      → ((ns : List Node) → Derives (meant m t) s 0 (sym 0) 0 0 ns → P (match-of 0 NoMatch))
      → ((k : ℕ) (ns : List Node) → Derives (meant m t) s 0 (sym 0) 0 (suc k) ns → Fits (room_of ws) ns → P (match-of (length ns) (Matched k)))
      → ((k : ℕ) (ns : List Node) (j : ℕ) → Derives (meant m t) s 0 (sym 0) 0 (suc k) ns → TooDeep (room_of ws) ns j → P (match-of 0 (OutcomeRefused 11 j)))
      → ((k : ℕ) (ns : List Node) (j : ℕ) → Derives (meant m t) s 0 (sym 0) 0 (suc k) ns → NoRoom (room_of ws) ns j → P (match-of 0 (OutcomeRefused 12 j)))
      → P answer
  by_answer P f g h i = let w = start-meant m t s cs ws ok short room in by_result w.0 w.1 w.2
    where
      by_cases : (k : ℕ) (ns : List Node) → Derives (meant m t) s 0 (sym 0) 0 (suc k) ns → OneOf (room_of ws) ns → P answer
      by_cases k ns d (inl o) = subst P (flip (ap (λ (x : Matching). x.answer) (matched m t s cs ws ok short room d o))) (g k ns d o)
      by_cases k ns d (inr (inl o)) = subst P (flip (ap (λ (x : Matching). x.answer) (too-deep m t s cs ws ok short room d o.1))) (h k ns o.0 d o.1)
      by_cases k ns d (inr (inr o)) = subst P (flip (ap (λ (x : Matching). x.answer) (no_room m t s cs ws ok short room d o.1))) (i k ns o.0 d o.1)

      by_result : (x : ℕ) (ns : List Node) → Derives (meant m t) s 0 (sym 0) 0 x ns → P answer
      by_result zero ns d = subst P (flip (ap (λ (x : Matching). x.answer) (not-matched m t s cs ws ok short room d))) (f ns d)
      by_result (suc k) ns d = by_cases k ns d (one_of (room_of ws) ns)

  -- "matched to a place": the start symbol takes so many bytes, and the nodes fit
  pub matched-only : {k : ℕ} → answer.outcome ≡ Matched k
      → (ns : List Node) × Derives (meant m t) s 0 (sym 0) 0 (suc k) ns × Fits (room_of ws) ns × (answer.nodes ≡ length ns)
  matched-only {k} =
      by_answer (λ (a : Match). a.outcome ≡ Matched k → (ns : List Node) × Derives (meant m t) s 0 (sym 0) 0 (suc k) ns × Fits (room_of ws) ns × (a.nodes ≡ length ns))
      (λ ns d e. absurd (none-matched e))
      (λ j ns d o e. (ns, subst (λ (x : ℕ). Derives (meant m t) s 0 (sym 0) 0 x ns) (ap taken_of e) d, o, refl))
      (λ j ns i d o e. absurd (refused-matched e))
      (λ j ns i d o e. absurd (refused-matched e))

  -- none: the start symbol fails
  pub not-matched-only : answer.outcome ≡ NoMatch → (ns : List Node) × Derives (meant m t) s 0 (sym 0) 0 0 ns
  not-matched-only =
      by_answer (λ (a : Match). a.outcome ≡ NoMatch → (ns : List Node) × Derives (meant m t) s 0 (sym 0) 0 0 ns)
      (λ ns d e. (ns, d))
      (λ j ns d o e. absurd (none-matched (flip e)))
      (λ j ns i d o e. absurd (none-refused (flip e)))
      (λ j ns i d o e. absurd (none-refused (flip e)))

  -- refused 11 or 12: the start symbol matches, and that node is the first that offends
  pub too-deep-only : {i : ℕ} → answer.outcome ≡ OutcomeRefused 11 i → (k : ℕ) × (ns : List Node) × Derives (meant m t) s 0 (sym 0) 0 (suc k) ns × TooDeep (room_of ws) ns i
  too-deep-only {i} =
      by_answer (λ (a : Match). a.outcome ≡ OutcomeRefused 11 i → (k : ℕ) × (ns : List Node) × Derives (meant m t) s 0 (sym 0) 0 (suc k) ns × TooDeep (room_of ws) ns i)
      (λ ns d e. absurd (none-refused e))
      (λ j ns d o e. absurd (refused-matched (flip e)))
      (λ k ns j d o e. (k, ns, d, subst (TooDeep (room_of ws) ns) (ap place-of e) o))
      (λ k ns j d o e. absurd (eleven-twelve (flip e)))

  pub no-room-only : {i : ℕ} → answer.outcome ≡ OutcomeRefused 12 i → (k : ℕ) × (ns : List Node) × Derives (meant m t) s 0 (sym 0) 0 (suc k) ns × NoRoom (room_of ws) ns i
  no-room-only {i} =
      by_answer (λ (a : Match). a.outcome ≡ OutcomeRefused 12 i → (k : ℕ) × (ns : List Node) × Derives (meant m t) s 0 (sym 0) 0 (suc k) ns × NoRoom (room_of ws) ns i)
      (λ ns d e. absurd (none-refused e))
      (λ j ns d o e. absurd (refused-matched (flip e)))
      (λ k ns j d o e. absurd (eleven-twelve e))
      (λ k ns j d o e. (k, ns, d, subst (NoRoom (room_of ws) ns) (ap place-of e) o))
