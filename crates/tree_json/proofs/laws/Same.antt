-- Only the symbols below R matter: for reading, and for the text of a good list. Assumes nothing.
use Prim.Native.Nat.{ℕ, zero, suc, ◌+◌, ◌-◌, ◌≤◌, ◌<◌}
use Rattle.std.specs.Prelude.{◌≡◌, ◌&&◌, eqb, leb, length}
use Rattle.std.proofs.Math.Path.{refl, ap, ap₂}
use Rattle.std.proofs.Common.{◌∙◌, arith}
use Rattle.std.proofs.Math.Bool.{true, false}
use mathlib.Core.List.{List, [], ◌∷◌, ◌++◌}
use Rattle.std.proofs.Math.Option.{Option, none}
use Rattle.read_tokens.specs.Token.{Symbol}
use Rattle.match_meaning.specs.Meaning.{Node, nd}
use Rattle.match_list.specs.Nodes.{part_of}
use Rattle.write_rules.specs.Writing.{symbol_text}
use Rattle.tree_list.specs.Preorder.{Gap, admits, gaps_behind, bad_from, whole}
use Rattle.tree_list.specs.laws.Bad.{goes_on}
use Rattle.tree_list.specs.laws.Gaps.{Stands as LetIn, admits-parts}
use Rattle.tree_json.specs.Json.{chars_json, number_json, before_name, quote, before_start, before_end, before_text, before_children, behind_node, head_json, json_text}
use Rattle.tree_json.specs.Reading.{ate, Took, took, named_at, number_at, closes_at, Head, next_at, head_at, nodes_from, parsed}
use Rattle.tree_json.proofs.laws.Only.{choose}

module _ (f g : ℕ → Symbol) (R : ℕ) (same : (r : ℕ) → r < R → f r ≡ g r) (s : List ℕ) where
  name-same : (c r : ℕ) (js : List ℕ) (at : ℕ) → r + c ≤ R → named_at f c r js at ≡ named_at g c r js at
  unfolding named_at
  name-same zero r js at l = refl
  name-same (suc c) r js at l =
      let by : ℕ → Took → Took = λ a t. elim (leb a (length js)) [ true ↦ took r a | false ↦ t ] in
      ap₂ by (ap (λ (x : Symbol). ate (symbol_text x ++ quote) js at) (same r (omega arith))) (name-same c (suc r) js at (omega arith))

  head-same : (js : List ℕ) (d at : ℕ) → head_at f R s js d at ≡ head_at g R s js d at
  unfolding head_at
  head-same js d at = ap by (name-same R 0 js (ate before_name js at) (omega arith))
    where
      by : Took → Head
      by r =
          let p : Took = number_at js (ate before_start js r.place) in
          let q : Took = number_at js (ate before_end js p.place) in
          let x : Node = nd r.value p.value q.value d in
          record { node = x; place = ate before_children js (ate (chars_json (part_of s x)) js (ate before_text js q.place)) }

  nodes-same : (left : ℕ) (js : List ℕ) (gs : List Gap) (k d at : ℕ) → nodes_from f R s left js gs k d at ≡ nodes_from g R s left js gs k d at
  unfolding nodes_from
  nodes-same zero js gs k d at = refl
  nodes-same (suc left) js gs k d at =
      let h : Head = head_at g R s js d at in
      ap (λ (h : Head). turn h (nodes_from f R s left js (gaps_behind gs h.node) (suc k) (suc d - (closed h).value) (next_at js (closed h)))) (head-same js d at)
      ∙ ap (turn h) (nodes-same left js (gaps_behind gs h.node) (suc k) (suc d - (closed h).value) (next_at js (closed h)))
    where
      closed : Head → Took
      closed h = closes_at (suc d) js h.place

      turn : Head → Option (List Node) → Option (List Node)
      turn h o = choose (leb h.place (length js) && admits R gs k h.node) (eqb (closed h).value (suc d)) (eqb (closed h).place (length js)) h.node o

  pub parsed-same : (js : List ℕ) → parsed f R s js ≡ parsed g R s js
  unfolding parsed
  parsed-same js = nodes-same (length js) js (whole (length s)) 0 0 0

  head-text : (x : Node) → x.symbol < R → head_json f s x ≡ head_json g s x
  unfolding head_json
  head-text x l =
      ap (λ (y : Symbol). before_name ++ (symbol_text y ++ (quote ++ (before_start ++ (number_json x.start ++ (before_end ++ (number_json x.end
      ++ (before_text ++ (chars_json (part_of s x) ++ before_children))))))))) (same x.symbol l)

  pub text_same : (gs : List Gap) (k : ℕ) (ns : List Node) → bad_from R gs k ns ≡ none → json_text f s ns ≡ json_text g s ns
  unfolding json_text
  text_same gs k [] e = refl
  text_same gs k (x ∷ xs) e =
      let i = goes_on R gs k x xs e in
      let b : LetIn R gs k x = admits-parts R gs k x i.0 in
      ap₂ (λ (h t : List ℕ). h ++ (behind_node x.depth xs ++ t)) (head-text x b.known) (text_same (gaps_behind gs x) (suc k) xs i.1)
