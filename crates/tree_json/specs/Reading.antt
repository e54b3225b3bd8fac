-- The node list that a JSON text says, if it is such a text: "such a text gives the same node list, and any other text is refused" (02, par. 1).
-- A place past the text's end stands for "not such a text", and stays there. That this reads just the texts of Json.antt is proved in laws/.
-- Assumes nothing: these are definitions.
use Rattle.std.specs.Prelude.{ℕ, zero, suc, ◌+◌, ◌-◌, ◌*◌, ◌≤◌, ◌<◌, ◌≡◌, Bool, true, false, cond, ◌&&◌, List, [], ◌∷◌, ◌++◌, eqb, leb, ltb, length, get_or}
use Rattle.std.proofs.Math.Option.{Option, none, some}
use Rattle.read_tokens.specs.Token.{Symbol}
use Rattle.match_meaning.specs.Meaning.{Node, nd}
use Rattle.match_list.specs.Nodes.{part_of}
use Rattle.write_rules.specs.Writing.{symbol_text}
use Rattle.tree_list.specs.Preorder.{Gap, admits, gaps_behind, bad_from, whole}
use Rattle.tree_json.specs.Json.{before_name, quote, before_start, before_end, before_text, before_children, behind_children, comma}
use Rattle.tree_json.specs.Json.{chars_json, number_json, json_text}

-- ── bytes that must stand there: the place behind them ──
unfoldable pub ate : List ℕ → List ℕ → ℕ → ℕ
ate [] js at = at
ate (b ∷ bs) js at = elim (ltb at (length js) && eqb (get_or js at 0) b) [ true ↦ ate bs js (suc at) | false ↦ suc (length js) ]

-- what was read, and the place behind it
pub record Took : Type 0 where
  pub value : ℕ
  pub place : ℕ

abbrev pub took : ℕ → ℕ → Took
took v a = record { value = v; place = a }

-- ── a symbol by its name and the quote behind it: of c symbols from r on ──
unfoldable pub named_at : (ℕ → Symbol) → ℕ → ℕ → List ℕ → ℕ → Took
named_at f zero r js at = took r (suc (length js))
named_at f (suc c) r js at =
    let a : ℕ = ate (symbol_text (f r) ++ quote) js at in elim (leb a (length js)) [ true ↦ took r a | false ↦ named_at f c (suc r) js at ]

-- ── a number: what its first digits say, five at most; and it must be written so ──
abbrev pub is_digit : ℕ → Bool
is_digit b = leb 48 b && leb b 57

unfoldable pub digits_at : ℕ → ℕ → List ℕ → ℕ → ℕ
digits_at zero v js at = v
digits_at (suc k) v js at = elim (is_digit (get_or js at 0)) [ true ↦ digits_at k (10 * v + (get_or js at 0 - 48)) js (suc at) | false ↦ v ]

unfoldable pub number_at : List ℕ → ℕ → Took
number_at js at = let v : ℕ = digits_at 5 0 js at in took v (ate (number_json v) js at)

-- ── closing pairs, c at most: how many ──
unfoldable pub closes_at : ℕ → List ℕ → ℕ → Took
closes_at zero js at = took 0 at
closes_at (suc c) js at =
    let a : ℕ = ate behind_children js at in
    elim (leb a (length js)) [ true ↦ (let w : Took = closes_at c js a in took (suc w.value) w.place) | false ↦ took 0 at ]

abbrev pub cons_to : Node → Option (List Node) → Option (List Node)
cons_to x none = none
cons_to x (some xs) = some (x ∷ xs)

-- behind c closing pairs, c at most the depth, comes a sibling of the last that was closed; behind none the first child
abbrev pub next_at : List ℕ → Took → ℕ
next_at js c = cond (eqb c.value 0) c.place (ate comma js c.place)

-- a node up to its children, and the place behind
pub record Head : Type 0 where
  pub node : Node
  pub place : ℕ

-- f are the R symbols by number, s is the input
module _ (f : ℕ → Symbol) (R : ℕ) (s : List ℕ) where
  -- of a node of depth d
  unfoldable pub head_at : List ℕ → ℕ → ℕ → Head
  head_at js d at =
      let r : Took = named_at f R 0 js (ate before_name js at) in
      let p : Took = number_at js (ate before_start js r.place) in
      let q : Took = number_at js (ate before_end js p.place) in
      let x : Node = nd r.value p.value q.value d in
      record { node = x; place = ate before_children js (ate (chars_json (part_of s x)) js (ate before_text js q.place)) }

  -- from where node k begins, of depth d; gs as in Preorder.antt
  unfoldable pub nodes_from : ℕ → List ℕ → List Gap → ℕ → ℕ → ℕ → Option (List Node)
  nodes_from zero js gs k d at = none
  nodes_from (suc left) js gs k d at =
      let h : Head = head_at js d at in
      let c : Took = closes_at (suc d) js h.place in
      elim (leb h.place (length js) && admits R gs k h.node) [
        | true ↦
            elim (eqb c.value (suc d)) [
              | true ↦ cond (eqb c.place (length js)) (some (h.node ∷ [])) none
              | false ↦ cons_to h.node (nodes_from left js (gaps_behind gs h.node) (suc k) (suc d - c.value) (next_at js c))
            ]
        | false ↦ none
      ]

  -- each node takes at least a byte
  unfoldable pub parsed : List ℕ → Option (List Node)
  parsed js = nodes_from (length js) js (whole (length s)) 0 0 0

-- ── js is the text of the good list ns; 16 is every text that is no such list's ──
pub record SaysList (f : ℕ → Symbol) (R : ℕ) (s js : List ℕ) (ns : List Node) : Type 0 where
  pub text : js ≡ json_text f s ns
  pub good : bad_from R (whole (length s)) 0 ns ≡ none
  pub many : 1 ≤ length ns

-- ── "They need no escape", and no two of R symbols have one name ──
abbrev pub Quoteless : List ℕ → Type 0
Quoteless [] = Unit {0}
Quoteless (b ∷ w) = (b ≡ 34 → ⊥) × Quoteless w

pub record Plainly (f : ℕ → Symbol) (R : ℕ) : Type 0 where
  pub quoteless : (r : ℕ) → r < R → Quoteless (symbol_text (f r))
  pub differ : (r r' : ℕ) → r < R → r' < R → symbol_text (f r) ≡ symbol_text (f r') → r ≡ r'
