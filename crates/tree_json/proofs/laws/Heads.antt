-- A node up to its children, both ways: what is read as one stands there, and one that stands there is read. Assumes nothing.
use Prim.Native.Nat.{ℕ, ◌≤◌, ◌<◌}
use Rattle.std.specs.Prelude.{◌≡◌, length}
use Rattle.std.proofs.Math.Path.{refl, sym, subst}
use Rattle.std.proofs.Common.{◌∙◌}
use mathlib.Core.List.{List, ◌∷◌, ◌++◌, append_assoc}
use native.Mathlib.Omega.{arith}
use Rattle.std.proofs.Math.ListN.{drop}
use Rattle.read_tokens.specs.Token.{Symbol}
use Rattle.match_meaning.specs.Meaning.{Node, nd}
use Rattle.match_list.specs.Nodes.{part_of}
use Rattle.write_rules.specs.Writing.{symbol_text}
use Rattle.tree_json.specs.Json.{chars_json, number_json, before_name, quote, before_start, before_end, before_text, before_children, head_json}
use Rattle.tree_json.specs.Reading.{ate, Took, named_at, number_at, Head, head_at, Plainly}
use Rattle.tree_json.proofs.laws.Places.{Stands, Ate, ate-only, then, ate-back}
use Rattle.tree_json.proofs.laws.Names.{name-only, name_back}
use Rattle.tree_json.proofs.laws.Numbers.{number-only, number-value, number-back}

-- a head's parts and what stands behind, by what they write
abbrev parts : List ℕ → List ℕ → List ℕ → List ℕ → List ℕ → List ℕ
parts name start end text z =
    before_name ++ (name ++ (quote ++ (before_start ++ (start ++ (before_end ++ (end ++ (before_text ++ (text ++ (before_children ++ z)))))))))

module _ (f : ℕ → Symbol) (s : List ℕ) where
  abbrev head_on : Node → List ℕ → List ℕ
  head_on x z = parts (symbol_text (f x.symbol)) (number_json x.start) (number_json x.end) (chars_json (part_of s x)) z

  head-on : (x : Node) (z : List ℕ) → head_json f s x ++ z ≡ head_on x z
  unfolding head_json
  head-on x z = simp append_assoc

  -- a head takes a byte at least
  pub head-some : (x : Node) → 1 ≤ length (head_json f s x)
  unfolding head_json
  head-some x = omega arith

  -- `{` is no digit's, no pair's and no comma's first byte
  pub head_first : (x : Node) → (z : List ℕ) × (head_json f s x ≡ 123 ∷ z)
  unfolding head_json
  head_first x = (_, refl)

-- x was read, and z stands behind it
pub record Read (js : List ℕ) (x : Node) (z : List ℕ) (h : Head) : Type 0 where
  pub same : h.node ≡ x
  pub behind : Stands js h.place z

module _ (f : ℕ → Symbol) (R : ℕ) (s : List ℕ) where
  pub head-only : (js : List ℕ) (d at : ℕ) → (head_at f R s js d at).place ≤ length js → Ate (head_json f s (head_at f R s js d at).node) js at (head_at f R s js d at).place
  unfolding head_at
  head-only js d at h =
      let r : Took = named_at f R 0 js (ate before_name js at) in
      let p : Took = number_at js (ate before_start js r.place) in
      let q : Took = number_at js (ate before_end js p.place) in
      let x : Node = nd r.value p.value q.value d in
      let children = ate-only before_children js (ate (chars_json (part_of s x)) js (ate before_text js q.place)) h in
      let text = ate-only (chars_json (part_of s x)) js (ate before_text js q.place) children.within in
      let before_text_lem = ate-only before_text js q.place text.within in
      let end = number-only js (ate before_end js p.place) before_text_lem.within in
      let before-end = ate-only before_end js p.place end.within in
      let start = number-only js (ate before_start js r.place) before-end.within in
      let before-start = ate-only before_start js r.place start.within in
      let name = name-only f R 0 js (ate before_name js at) before-start.within in
      let before-name = ate-only before_name js at name.within in
      let behind : List ℕ = drop (head_at f R s js d at).place js in
      let on : drop r.place js ≡ before_start ++ (number_json p.value ++ (before_end ++ (number_json q.value ++ (before_text ++ (chars_json (part_of s x) ++ (before_children ++ behind)))))) =
      then before-start (then start (then before-end (then end (then before_text_lem (then text children.bytes))))) in
      record {
        within = before-name.within;
        bytes = then before-name (then name on ∙ append_assoc (symbol_text (f r.value)) quote _) ∙ sym (head-on f s x behind);
      }

  pub head-back : Plainly f R → (js : List ℕ) (at : ℕ) (x : Node) (z : List ℕ) → x.symbol < R → x.start < 100000 → x.end < 100000 → Stands js at (head_json f s x ++ z)
      → Read js x z (head_at f R s js x.depth at)
  unfolding head_at
  head-back g js at x z lr lp lq t =
      let r : Took = named_at f R 0 js (ate before_name js at) in
      let p : Took = number_at js (ate before_start js r.place) in
      let q : Took = number_at js (ate before_end js p.place) in
      let y : Node = nd r.value p.value q.value x.depth in
      let parted : Stands js at (head_on f s x z) = subst (λ (w : List ℕ). Stands js at w) (head-on f s x z) t in
      let name = ate-back before_name parted in
      let found = name_back f R g js (ate before_name js at) R 0 x.symbol _ (omega arith) (omega arith) (omega arith) name in
      let start = ate-back before_start found.behind in
      let same_start : p.value ≡ x.start = number-value x.start 44 _ lp refl start in
      let behind-start = number-back x.start 44 _ lp refl start in
      let end = ate-back before_end behind-start in
      let same_end : q.value ≡ x.end = number-value x.end 44 _ lq refl end in
      let behind-end = number-back x.end 44 _ lq refl end in
      let text = ate-back before_text behind-end in
      let same : y ≡ x = same-node found.number same_start same_end in
      let children = ate-back (chars_json (part_of s y)) (subst (λ (n : Node). Stands js (ate before_text js q.place) (chars_json (part_of s n) ++ (before_children ++ z))) (sym same) text) in
      record { same = same; behind = ate-back before_children children }
    where
      same-node : {a b c : ℕ} → a ≡ x.symbol → b ≡ x.start → c ≡ x.end → nd a b c x.depth ≡ x
      same-node h i j = rw (h, i, j)
