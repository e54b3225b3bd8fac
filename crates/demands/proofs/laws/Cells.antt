-- Demand 2 on the cells: "u32 work cell p·R + r holds 0 if symbol r fails at p, else 1 + length taken, for p from 0 to n. Later cells .. stay as they were"
-- (01, Meaning of a match). Assumes nothing.
use Rattle.std.specs.Prelude.{ℕ, zero, suc, ◌+◌, ◌*◌, ◌≤◌, ◌<◌, ◌≡◌, refl, Bool, List, [], length, get_or}
use Rattle.std.proofs.Common.{ap, ◌∙◌, sym as flip, arith, mul_comm, le-ltb}
use Rattle.std.proofs.Math.Path.{ap₂, subst}
use Rattle.std.proofs.Math.Option.{Option, none}
use Rattle.read_tokens.specs.Bounds.{input_bound}
use Rattle.read_tokens.specs.declared.Mode.{Mode}
use Rattle.grammar.specs.Exp.{Exp, sym}
use Rattle.grammar.specs.Numbers.{Grammar, numbered}
use Rattle.grammar.specs.Refusal.{Refusal, refuse_if, ◌▸◌}
use Rattle.read_syntax.specs.Reading.{rules_of}
use Rattle.grammar.specs.Numbers.{terminal_in}
use Rattle.lake_rules.specs.Beginning.{marked, marks_of}
use Rattle.lake_step_one.specs.Proper.{SoundAll}
use Rattle.lake_plain.specs.Calls.{order, loop}
use Rattle.match_meaning.specs.Meaning.{Node, Derives}
use Rattle.match_meaning.proofs.laws.One.{one}
use Rattle.match_cells.specs.laws.First.{Markings, Ordered}
use Rattle.match_cells.specs.laws.Agrees.{Right}
use Rattle.match_cells.specs.laws.Filled.{filled-right, filled-behind, filled-length}
use Rattle.match_cells.specs.laws.Order.{ordered}
use Rattle.match_cells.specs.laws.Full.{calls-small, markings}
use Rattle.prepare.specs.Prepare.{prepared, prepared_by, refuses}
use Rattle.prepare.specs.laws.Reads.{clear-sound, clear-loop}
use Rattle.gurkenmond.specs.Calls.{Matching, cells_needed, refuses_input, listing_by, match_by, filled, match_after, match_of}
use Rattle.match_list.specs.Nodes.{Listing, all, deep, full, listing_of, list_of, words_of, room_of}
use Rattle.demands.specs.Meant.{meant}
use Rattle.demands.proofs.laws.Meant.{bodies-many, from-plain}

-- ── of a text that 1 to 8 let through ──
module _ (m : Mode) (t : List ℕ) (ok : refuses m t ≡ none) where
  abbrev pub bodies : List (Exp ℕ)
  bodies = (prepared m t).bodies

  sound : SoundAll (terminal_in (prepared m t).grammar) (length bodies) (length (prepared m t).grammar.terminals) bodies
  unfolding prepared prepared_by
  sound =
      let g : Grammar = numbered (rules_of m t) in
      subst (λ (n : ℕ). SoundAll (terminal_in g) n (length g.terminals) (prepared m t).bodies) (flip (bodies-many m t)) (clear-sound m t ok)

  loopless : loop bodies ≡ none
  unfolding prepared prepared_by
  loopless = clear-loop m t ok

  -- symbols that are first-called are filled first
  pub in_order : Ordered (marked (marks_of bodies)) bodies [] (order bodies)
  in_order = ordered bodies (calls-small (terminal_in (prepared m t).grammar) (length (prepared m t).grammar.terminals) bodies sound) loopless

  marking : Markings (marked (marks_of bodies)) bodies
  marking = markings (terminal_in (prepared m t).grammar) (length (prepared m t).grammar.terminals) bodies sound

  -- ── on an input, with cells enough ──
  module _ (s cs : List ℕ) where
    pub filled-as-meant : cells_needed (prepared m t) s ≤ length cs → Right bodies s (filled (prepared m t) s cs)
    filled-as-meant room =
        filled-right bodies s (marked (marks_of bodies)) marking (order bodies) cs in_order (omega (arith, room, mul_comm (length bodies) (length s + 1)))

    pub filled-later : (i : ℕ) → cells_needed (prepared m t) s ≤ i → get_or (filled (prepared m t) s cs) i 0 ≡ get_or cs i 0
    filled-later i h = filled-behind bodies s (marked (marks_of bodies)) marking (order bodies) cs in_order i (omega (arith, h, mul_comm (length bodies) (length s + 1)))

-- ── a match that is not refused by 1 to 10 ──
listed-cells : (k : ℕ) (l : Listing) (cs ws : List ℕ) → (listing_by k l cs ws).cells ≡ cs
listed-cells k (all c) cs ws = refl
listed-cells k (deep c) cs ws = refl
listed-cells k (full c) cs ws = refl

match-cells : (x : ℕ) (bs : List (Exp ℕ)) (s cs ws : List ℕ) → (match_by x bs s cs ws).cells ≡ cs
match-cells zero bs s cs ws = refl
match-cells (suc k) bs s cs ws = listed-cells k (listing_of (room_of ws) 0 (list_of bs s cs)) cs (words_of (room_of ws) ws (list_of bs s cs))

module _ (m : Mode) (t s cs ws : List ℕ) (ok : refuses m t ≡ none) (short : length s ≤ input_bound) (room : cells_needed (prepared m t) s ≤ length cs) where
  pub input-clear : refuses_input (prepared m t) s cs ≡ none
  input-clear =
      ap₂ (λ (x y : Bool). refuse_if x 9 input_bound ▸ refuse_if y 10 (cells_needed (prepared m t) s)) (le-ltb input_bound (length s) short) (le-ltb (length cs) (cells_needed (prepared m t) s) room)

  pub match-clear : match_of m t s cs ws ≡ match_by (get_or (filled (prepared m t) s cs) 0 0) (prepared m t).bodies s (filled (prepared m t) s cs) ws
  unfolding match_of
  match-clear = ap₂ (λ (x y : Option Refusal). match_after (x ▸ y) (prepared m t) s cs ws) ok input-clear

  pub cells-filled : (match_of m t s cs ws).cells ≡ filled (prepared m t) s cs
  cells-filled =
      ap (λ (x : Matching). x.cells) match-clear
      ∙ match-cells (get_or (filled (prepared m t) s cs) 0 0) (prepared m t).bodies s (filled (prepared m t) s cs) ws

  -- work cell p·R + r after the match
  abbrev pub cell : ℕ → ℕ → ℕ
  cell p r = get_or (match_of m t s cs ws).cells (p * length (prepared m t).bodies + r) 0

  -- it says what symbol r means at p, at every depth,
  pub cell-meant : (p r d : ℕ) → p ≤ length s → r < length (prepared m t).bodies → (ns : List Node) × Derives (meant m t) s d (sym r) p (cell p r) ns
  cell-meant p r d h l =
      let w = filled-as-meant m t ok s cs room p r h l d in
      (w.0, subst (λ (c : List ℕ). Derives (meant m t) s d (sym r) p (get_or c (p * length (prepared m t).bodies + r) 0) w.0) (flip cells-filled) (from-plain m t s w.1))

  -- and nothing else
  pub cell-only : {p r d x : ℕ} {ns : List Node} → p ≤ length s → r < length (prepared m t).bodies → Derives (meant m t) s d (sym r) p x ns → cell p r ≡ x
  cell-only {p} {r} {d} h l k = (one (meant m t) s (cell-meant p r d h l).1 k).0

  -- "Later cells .. stay as they were"
  pub cells-later : (i : ℕ) → cells_needed (prepared m t) s ≤ i → get_or (match_of m t s cs ws).cells i 0 ≡ get_or cs i 0
  cells-later i h = ap (λ (c : List ℕ). get_or c i 0) cells-filled ∙ filled-later m t ok s cs i h

  pub cells-many : length (match_of m t s cs ws).cells ≡ length cs
  cells-many = ap length cells-filled ∙ filled-length (prepared m t).bodies s (order (prepared m t).bodies) cs
