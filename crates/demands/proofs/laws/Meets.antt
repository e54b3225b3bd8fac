-- DEMAND 2: a match meets what the rules of the meaning and the table of refusals say of it, and nothing else does: answer, cells and node words
-- (01, What the promises have to nail). Assumes nothing.
use Rattle.std.specs.Prelude.{ℕ, zero, suc, ◌+◌, ◌-◌, ◌*◌, ◌/◌, ◌%◌, ◌≤◌, ◌<◌, ◌≡◌, refl, Bool, true, false, List, [], ◌∷◌, length, get_or, ltb}
use Rattle.std.proofs.Common.{ap, ap₂, ◌∙◌, subst, sym as flip, inl, inr, arith, suc-mul, mul_comm, ext_get_or, ltb-true, ltb-false}
use Rattle.std.proofs.Math.Option.{Option, none, some}
use Rattle.read_tokens.specs.declared.Mode.{Mode}
use Rattle.read_tokens.specs.Bounds.{input_bound, node_words}
use Rattle.grammar.specs.Exp.{sym}
use Rattle.grammar.specs.Refusal.{Refusal, ◌▸◌}
use Rattle.match_meaning.specs.Meaning.{Node, Derives}
use Rattle.match_meaning.proofs.laws.One.{one}
use Rattle.lake_plain.specs.Calls.{order}
use Rattle.match_list.specs.Nodes.{room_of, words_of, node_at, nodes_at}
use Rattle.match_cells.specs.laws.Filled.{filled-length}
use Rattle.prepare.specs.Prepare.{prepared, refuses}
use Rattle.gurkenmond.specs.Answers.{value as Matched, nomatch as NoMatch, refused as OutcomeRefused}
use Rattle.gurkenmond.specs.Calls.{Matching, matching, cells_needed, refuses_input, filled, match_of}
use Rattle.demands.specs.Meant.{meant}
use Rattle.demands.specs.Offends.{Fits}
use Rattle.demands.specs.Checks.{NoRow, input_checks}
use Rattle.demands.specs.Meets.{symbol_count_of, Tabled, NodesIn, Meets, refused, fails, takes, too-deep, no_room}
use Rattle.demands.proofs.laws.Meant.{bodies-many, from-plain}
use Rattle.demands.proofs.laws.Offends.{OneOf, one_of}
use Rattle.demands.proofs.laws.Cells.{filled-as-meant, filled-later}
use Rattle.demands.proofs.laws.Matches.{start-meant, not-matched, matched, nodes-back, nodes-behind, nodes-many}
use Rattle.demands.proofs.laws.Matches.{too-deep as too-deep-is, no_room as no-room-is}
use Rattle.demands.proofs.laws.Chain.{silent}
use Rattle.demands.proofs.laws.Refusals.{input-chain}
use Rattle.demands.proofs.laws.Refused.{match-refused, match-passes}

-- ── two tables are one ──
-- a number below n·R is in row p, column r
rowed : (R n i : ℕ) → i < n * R → (p : ℕ) × (r : ℕ) × (p < n) × (r < R) × (p * R + r ≡ i)
rowed R zero i h = absurd (omega arith)
rowed R (suc n) i h = go (ltb i (n * R)) refl (λ l. rowed R n i l)
  where
    go : (b : Bool) → ltb i (n * R) ≡ b → (i < n * R → (p : ℕ) × (r : ℕ) × (p < n) × (r < R) × (p * R + r ≡ i)) → (p : ℕ) × (r : ℕ) × (p < suc n) × (r < R) × (p * R + r ≡ i)
    go true e f = let w = f (ltb-true i (n * R) e) in (w.0, w.1, omega (arith, w.2), w.3, w.4)
    go false e f =
        let l : n * R ≤ i = ltb-false i (n * R) e in
        (n, i - n * R, omega arith, omega (arith, l, h, suc-mul n R), omega (arith, l))

pub tabled-one : (m : Mode) (t s cs c e : List ℕ) → Tabled m t s cs c → Tabled m t s cs e → c ≡ e
tabled-one m t s cs c e a b =
    ext_get_or 0 c e (a.long ∙ flip b.long) (λ i l. at i (ltb i ((length s + 1) * symbol_count_of m t)) refl)
  where
    cell_same : (p r : ℕ) → p ≤ length s → r < symbol_count_of m t → get_or c (p * symbol_count_of m t + r) 0 ≡ get_or e (p * symbol_count_of m t + r) 0
    cell_same p r h l = (one (meant m t) s (a.cell p r h l).1 (b.cell p r h l).1).0

    at : (i : ℕ) (x : Bool) → ltb i ((length s + 1) * symbol_count_of m t) ≡ x → get_or c i 0 ≡ get_or e i 0
    at i true h =
        let w = rowed (symbol_count_of m t) (length s + 1) i (ltb-true i ((length s + 1) * symbol_count_of m t) h) in
        subst (λ (j : ℕ). get_or c j 0 ≡ get_or e j 0) w.4 (cell_same w.0 w.1 (omega (arith, w.2)) w.3)
    at i false h =
        let l : (length s + 1) * symbol_count_of m t ≤ i = ltb-false i ((length s + 1) * symbol_count_of m t) h in
        a.later i l ∙ flip (b.later i l)

-- ── two lists of words are one ──
node-same : (v w : List ℕ) (k c : ℕ) → nodes_at v k c ≡ nodes_at w k c → (j : ℕ) → j < c → node_at v (k + j) ≡ node_at w (k + j)
unfolding nodes_at
node-same v w k zero e j l = absurd (omega arith)
node-same v w k (suc c) e zero l =
    let z : node_at v k ≡ node_at w k = ap (head (node_at v k)) e in subst (λ (i : ℕ). node_at v i ≡ node_at w i) (omega arith) z
  where
    head : Node → List Node → Node
    head d [] = d
    head d (x ∷ l) = x
node-same v w k (suc c) e (suc j) l = subst (λ (i : ℕ). node_at v i ≡ node_at w i) (omega arith) (node-same v w (suc k) c (ap tail e) j (omega arith))
  where
    tail : List Node → List Node
    tail [] = []
    tail (x ∷ l) = l

word_same : (v w : List ℕ) (k : ℕ) → node_at v k ≡ node_at w k → (i j : ℕ) → j < 4 → 4 * k + j ≡ i → get_or v i 0 ≡ get_or w i 0
unfolding node_at node_words
word_same v w k e i zero l h = subst (λ (x : ℕ). get_or v x 0 ≡ get_or w x 0) (omega (arith, h)) (ap (λ (n : Node). n.symbol) e)
word_same v w k e i (suc zero) l h = subst (λ (x : ℕ). get_or v x 0 ≡ get_or w x 0) h (ap (λ (n : Node). n.start) e)
word_same v w k e i (suc (suc zero)) l h = subst (λ (x : ℕ). get_or v x 0 ≡ get_or w x 0) h (ap (λ (n : Node). n.end) e)
word_same v w k e i (suc (suc (suc zero))) l h = subst (λ (x : ℕ). get_or v x 0 ≡ get_or w x 0) h (ap (λ (n : Node). n.depth) e)
word_same v w k e i (suc (suc (suc (suc j)))) l h = absurd (omega arith)

listed-one : (ws : List ℕ) (ns : List Node) (v w : List ℕ) → NodesIn ws ns v → NodesIn ws ns w → v ≡ w
unfolding node_words
listed-one ws ns v w a b = ext_get_or 0 v w (a.long ∙ flip b.long) (λ i l. at i (ltb i (4 * length ns)) refl)
  where
    at : (i : ℕ) (x : Bool) → ltb i (4 * length ns) ≡ x → get_or v i 0 ≡ get_or w i 0
    at i true h =
        let l : i < 4 * length ns = ltb-true i (4 * length ns) h in
        let n : node_at v (0 + i / 4) ≡ node_at w (0 + i / 4) = node-same v w 0 (length ns) (a.nodes ∙ flip b.nodes) (i / 4) (omega (arith, l)) in
        word_same v w (0 + i / 4) n i (i % 4) (omega arith) (omega arith)
    at i false h =
        let l : 4 * length ns ≤ i = ltb-false i (4 * length ns) h in
        a.behind i l ∙ flip (b.behind i l)

-- ── the match ──
module _ (m : Mode) (t s cs ws : List ℕ) where
  module _ (z : NoRow (input_checks m t s cs)) where
    ok : refuses m t ≡ none
    ok = (match-passes m t s cs z).0

    short : length s ≤ input_bound
    short = (match-passes m t s cs z).1

    room : cells_needed (prepared m t) s ≤ length cs
    room = (match-passes m t s cs z).2

    abbrev R : ℕ
    R = symbol_count_of m t

    pub table : Tabled m t s cs (filled (prepared m t) s cs)
    table = record {
      long = filled-length (prepared m t).bodies s (order (prepared m t).bodies) cs;
      cell =
          λ p r h l.
          let w = filled-as-meant m t ok s cs room p r h (omega (arith, l, bodies-many m t)) 0 in
          (w.0, subst (λ (k : ℕ). Derives (meant m t) s 0 (sym r) p (get_or (filled (prepared m t) s cs) (p * k + r) 0) w.0) (bodies-many m t) (from-plain m t s w.1));
      later =
          λ i l.
          filled-later m t ok s cs i
          (subst (λ (k : ℕ). k * (length s + 1) ≤ i) (flip (bodies-many m t)) (omega (arith, l, mul_comm R (length s + 1))));
    }

    words : {k : ℕ} {ns : List Node} (d : Derives (meant m t) s 0 (sym 0) 0 (suc k) ns) → Fits (room_of ws) ns → NodesIn ws ns (match_of m t s cs ws).nodes
    words d f = record { long = nodes-many m t s cs ws ok short room d f; nodes = nodes-back m t s cs ws ok short room d f; behind = nodes-behind m t s cs ws ok short room d f }

    words-at : {k : ℕ} {ns : List Node} (d : Derives (meant m t) s 0 (sym 0) 0 (suc k) ns) → Fits (room_of ws) ns → NodesIn ws ns (words_of (room_of ws) ws ns)
    words-at {ns = ns} d f = subst (NodesIn ws ns) (ap (λ (x : Matching). x.nodes) (matched m t s cs ws ok short room d f)) (words d f)

    by-list : {k : ℕ} {ns : List Node} → Derives (meant m t) s 0 (sym 0) 0 (suc k) ns → OneOf (room_of ws) ns → Meets m t s cs ws (match_of m t s cs ws)
    by-list d (inl f) = subst (Meets m t s cs ws) (flip (matched m t s cs ws ok short room d f)) (takes z table d f (words-at d f))
    by-list d (inr (inl f)) = subst (Meets m t s cs ws) (flip (too-deep-is m t s cs ws ok short room d f.1)) (too-deep z table d f.1)
    by-list d (inr (inr f)) = subst (Meets m t s cs ws) (flip (no-room-is m t s cs ws ok short room d f.1)) (no_room z table d f.1)

    by-start : (x : ℕ) (ns : List Node) → Derives (meant m t) s 0 (sym 0) 0 x ns → Meets m t s cs ws (match_of m t s cs ws)
    by-start zero ns d = subst (Meets m t s cs ws) (flip (not-matched m t s cs ws ok short room d)) (fails z table d)
    by-start (suc k) ns d = by-list d (one_of (room_of ws) ns)

    by-rules : Meets m t s cs ws (match_of m t s cs ws)
    by-rules = let w = start-meant m t s cs ws ok short room in by-start w.0 w.1 w.2

  -- a match meets it,
  pub match-meets : Meets m t s cs ws (match_of m t s cs ws)
  match-meets = go (refuses m t ▸ refuses_input (prepared m t) s cs) refl
    where
      go : (o : Option Refusal) → (refuses m t ▸ refuses_input (prepared m t) s cs) ≡ o → Meets m t s cs ws (match_of m t s cs ws)
      go none e = by-rules (silent (input-chain m t s cs) e)
      go (some r) e =
          let f = (input-chain m t s cs).says r e in
          subst (Meets m t s cs ws) (flip (match-refused m t s cs ws {k = r.number} {p = r.place} f)) (refused f)

  -- and nothing else does
  pub match-meets-only : {x : Matching} → Meets m t s cs ws x → x ≡ match_of m t s cs ws
  match-meets-only (refused f) = flip (match-refused m t s cs ws f)
  match-meets-only (fails {c = c} z a d) =
      ap (λ (e : List ℕ). matching 0 NoMatch e ws) (tabled-one m t s cs c (filled (prepared m t) s cs) a (table z)) ∙ flip (not-matched m t s cs ws (ok z) (short z) (room z) d)
  match-meets-only (takes {k = k} {c = c} {w = w} {ns = ns} z a d f b) =
      ap₂ (λ (e v : List ℕ). matching (length ns) (Matched k) e v) (tabled-one m t s cs c (filled (prepared m t) s cs) a (table z)) (listed-one ws ns w (words_of (room_of ws) ws ns) b (words-at z d f))
      ∙ flip (matched m t s cs ws (ok z) (short z) (room z) d f)
  match-meets-only (too-deep {j = j} {c = c} z a d f) =
      ap (λ (e : List ℕ). matching 0 (OutcomeRefused 11 j) e ws) (tabled-one m t s cs c (filled (prepared m t) s cs) a (table z)) ∙ flip (too-deep-is m t s cs ws (ok z) (short z) (room z) d f)
  match-meets-only (no_room {j = j} {c = c} z a d f) =
      ap (λ (e : List ℕ). matching 0 (OutcomeRefused 12 j) e ws) (tabled-one m t s cs c (filled (prepared m t) s cs) a (table z)) ∙ flip (no-room-is m t s cs ws (ok z) (short z) (room z) d f)
