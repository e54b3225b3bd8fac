-- The tree as JSON over the public calls (02, par. 1): the rows of 15, 16 and 12, there and back. Assumes nothing.
use Rattle.std.specs.Prelude.{ℕ, suc, min, ◌+◌, ◌*◌, ◌≤◌, ◌<◌, ◌≡◌, Bool, true, false, not, ltb, length, take, drop}
use Rattle.std.proofs.Math.Path.{refl, ap, ap₂}
use Rattle.std.proofs.Common.{sym, ◌∙◌, subst, true≢false, arith, ltb-true, ltb-false, lt-ltb, le-ltb}
use mathlib.Core.List.{List, [], ◌∷◌, ◌++◌}
use Rattle.std.proofs.Math.Option.{Option, none, some}
use Rattle.std.proofs.lemmas.List.Edits.{sets, sets-eq}
use Rattle.std.proofs.Math.Seq.{take-append_seam}
use Rattle.read_tokens.specs.declared.Mode.{Mode}
use Rattle.read_tokens.specs.Bounds.{input_bound, node_words}
use Rattle.read_tokens.specs.Token.{Symbol}
use Rattle.read_tokens.specs.laws.Bytes.{bytes_of}
use Rattle.grammar.specs.Refusal.{Refusal, refusal, refuse_if, refuse_at, ◌▸◌}
use Rattle.match_meaning.specs.Meaning.{Node}
use Rattle.match_list.specs.Nodes.{nodes_at, room_of, in_words, put_node, written}
use Rattle.match_list.proofs.laws.Words.{room_fits}
use Rattle.prepare.specs.Prepare.{prepared, refuses}
use Rattle.prepare.specs.laws.Chain.{assoc}
use Rattle.prepare.specs.laws.Loads.{some-none}
use Rattle.prepare.specs.laws.Reads.{split}
use Rattle.tree_list.specs.Tree.{tree, preorder, IsTree, FirstBad, words_in}
use Rattle.tree_list.specs.Tree.{none as no-trees}
use Rattle.tree_list.specs.Preorder.{bad_node, bad_from, whole}
use Rattle.tree_list.specs.laws.Bad.{Good, good-parts}
use Rattle.tree_list.specs.laws.FirstBad.{first-bad}
use Rattle.tree_list.specs.laws.ListTree.{list-good, list-tree}
use Rattle.tree_list.specs.laws.NodeWords.{nodes-of-words, words_long, words-room, words-of-nodes, nodes-long}
use Rattle.tree_json.specs.Json.{json_text}
use Rattle.tree_json.specs.Reading.{parsed, Plainly}
use Rattle.tree_json.proofs.laws.Back.{texts-are-read}
use Rattle.tree_json.proofs.laws.Only.{read-only-texts}
use Rattle.tree_json.proofs.laws.Tree.{json-tree}
use Rattle.gurkenmond.specs.laws.Verdicts.{if_none}
use Rattle.gurkenmond.specs.Calls.{Writing, write_after, count_bound, refuses_length, refuses_list, write_json_of}
use Rattle.gurkenmond.specs.Calls.{parsing, is_text, list_in, parse_after, read_in, refuses_read, read_json_of}
use Rattle.demands.specs.Texts.{IsText, nodes_of_text}
use Rattle.demands.specs.Rows.{Row15, Row16, Row12Read, known, symbol_of}
use Rattle.demands.specs.Checks.{NoRow, list_text, json_checks, read_checks}
use Rattle.demands.specs.Demands.{Refuses, AreBytes, Wrote, JsonBack, at_front}
use Rattle.demands.proofs.laws.Chain.{Tells, accepts, join, row-tells, over-told, found_at, missing, same-refusal}
use Rattle.demands.proofs.laws.Exactly.{by-check, room-exactly}
use Rattle.demands.proofs.laws.Refusals.{one-to-eight}
use Rattle.demands.proofs.laws.Names.{plain-names}

-- a check that passes
not-false : (b : Bool) → not b ≡ false → b ≡ true
not-false true e = refl
not-false false e = absurd (true≢false e)

at_none : (k : ℕ) (o : Option ℕ) → refuse_at k o ≡ none → o ≡ none
at_none k none e = refl
at_none k (some p) e = absurd (some-none (refusal k p) e)

short-input : (s : List ℕ) → refuses_length s ≡ none → length s ≤ input_bound
short-input s e = ltb-false input_bound (length s) (if_none (ltb input_bound (length s)) 9 input_bound e)

-- ── the words of a list, read again ──
pub words-read : (xs : List Node) → nodes_at (words_in xs) 0 (room_of (words_in xs)) ≡ xs
words-read xs = ap (nodes_at (words_in xs) 0) (words-room xs) ∙ nodes-of-words xs

words-one : (xs ys : List Node) → words_in xs ≡ words_in ys → xs ≡ ys
words-one xs ys e = sym (words-read xs) ∙ ap (λ (ws : List ℕ). nodes_at ws 0 (room_of ws)) e ∙ words-read ys

-- a list written from node k on
written-sets : (ns : List Node) (vs : List ℕ) (k : ℕ) → written vs k ns ≡ sets vs (node_words * k) (words_in ns)
unfolding written put_node words_in in_words node_words
written-sets [] vs k = refl
written-sets (x ∷ ns) vs k =
    let e : node_words * suc k ≡ suc (suc (suc (suc (node_words * k)))) = omega arith in
    written-sets ns (put_node vs k x) (suc k) ∙ ap (λ (i : ℕ). sets (put_node vs k x) i (words_in ns)) e

written-front : (ns : List Node) (vs : List ℕ) → length (words_in ns) ≤ length vs → written vs 0 ns ≡ at_front (words_in ns) vs
unfolding node_words
written-front ns vs h =
    written-sets ns vs 0 ∙ sets-eq (words_in ns) vs 0 (omega (arith, h)) ∙ ap (λ (i : ℕ). words_in ns ++ drop i vs) (let z : 0 + length (words_in ns) ≡ length (words_in ns) = omega arith in z)

-- ── a text and its list ──
module _ (m : Mode) (t s : List ℕ) where
  abbrev R : ℕ
  R = known m t

  abbrev f : ℕ → Symbol
  f = symbol_of m t

  abbrev the-tree : {ws : List ℕ} → IsTree R (length s) ws → List Node
  the-tree x = preorder 0 (tree x.symbol x.start x.end x.children no-trees)

  -- a tree and its text
  abbrev as-text : {js ws : List ℕ} (x : IsTree R (length s) ws) → js ≡ json_text f s (the-tree x) → IsText f R s js
  as-text x e = record {
    symbol = x.symbol;
    start = x.start;
    end = x.end;
    children = x.children;
    fits = x.fits;
    shallow = x.shallow;
    text = e ∙ json-tree f s x.symbol x.start x.end x.children;
  }

  -- the text of words that are a list is that of its tree
  pub tree-text : (ws : List ℕ) → IsTree R (length s) ws → (x : IsText f R s (list_text m t s ws)) × (ws ≡ words_in (nodes_of_text x))
  tree-text ws x = (as-text x (ap (json_text f s) (ap (λ (vs : List ℕ). nodes_at vs 0 (room_of vs)) x.words ∙ words-read (the-tree x))), x.words)

  module _ (js : List ℕ) where
    -- what is read is a tree's list
    text_of : (ns : List Node) → parsed f R s js ≡ some ns → (x : IsText f R s js) × (nodes_of_text x ≡ ns)
    text_of ns e =
        let w = read-only-texts f R s js ns e in
        let x : IsTree R (length s) (words_in ns) = (list-tree R (length s) (words_in ns)).0 (list-good R (length s) ns w.many w.good) in
        let q : ns ≡ the-tree x = words-one ns (the-tree x) x.words in
        (as-text x (w.text ∙ ap (json_text f s) q), sym q)

    module _ (names : Plainly f R) (short : length s ≤ input_bound) where
      -- every text of a tree is read
      of-text : (x : IsText f R s js) → parsed f R s js ≡ some (nodes_of_text x)
      of-text x =
          let ns : List Node = nodes_of_text x in
          let y : IsTree R (length s) (words_in ns) =
          record { symbol = x.symbol; start = x.start; end = x.end; children = x.children; fits = x.fits; shallow = x.shallow; words = refl } in
          let w : Good R (length s) (words_in ns) = good-parts R (length s) (words_in ns) ((list-tree R (length s) (words_in ns)).1 y) in
          ap (parsed f R s) (x.text ∙ sym (json-tree f s x.symbol x.start x.end x.children))
          ∙ texts-are-read f R s names short ns (subst (λ (l : List Node). bad_from R (whole (length s)) 0 l ≡ none) (words-read ns) w.list)
          (omega (arith, w.some-node, words-room ns))

      is-text : (o : Option (List Node)) → parsed f R s js ≡ o → is_text o ≡ true → IsText f R s js
      is-text none e h = absurd (true≢false (sym h))
      is-text (some ns) e h = (text_of ns e).0

      tells-16 : Tells (Row16 m t s js ∷ []) (refuse_if (not (is_text (parsed f R s js))) 16 0)
      tells-16 = missing 16 (is_text (parsed f R s js)) (IsText f R s js) (is-text (parsed f R s js) refl) (λ x. ap is_text (of-text x))

      module _ (ws : List ℕ) where
        abbrev lacks : Bool
        lacks = ltb (room_of ws) (length (list_in (parsed f R s js)))

        row-12 : (b : Bool) → lacks ≡ b → is_text (parsed f R s js) ≡ true → (r : Refusal) → refuse_if b 12 (room_of ws) ≡ some r
            → (12 ≡ r.number) × (Row12Read m t s js ws).holds r.place
        row-12 false h i r e = absurd (some-none r (sym e))
        row-12 true h i r e =
            let z : refusal 12 (room_of ws) ≡ r = same-refusal e in
            (ap (λ (x : Refusal). x.number) z, (sym (ap (λ (x : Refusal). x.place) z), listed (parsed f R s js) refl i (ltb-true (room_of ws) (length (list_in (parsed f R s js))) h)))
          where
            listed : (o : Option (List Node)) → parsed f R s js ≡ o → is_text o ≡ true → room_of ws < length (list_in o) → (x : IsText f R s js) × (room_of ws < length (nodes_of_text x))
            listed none q j l = absurd (true≢false (sym j))
            listed (some ns) q j l = let w = text_of ns q in (w.0, subst (λ (l : List Node). room_of ws < length l) (sym w.1) l)

        tells-12 : is_text (parsed f R s js) ≡ true → Tells (Row12Read m t s js ws ∷ []) (refuse_if lacks 12 (room_of ws))
        tells-12 i =
            row-tells (Row12Read m t s js ws) (refuse_if lacks 12 (room_of ws)) (λ r e. row-12 lacks refl i r e)
            (λ p h.
            ap (λ (b : Bool). refuse_if b 12 (room_of ws))
            (lt-ltb (room_of ws) (length (list_in (parsed f R s js))) (subst (λ (o : Option (List Node)). room_of ws < length (list_in o)) (sym (of-text h.1.0)) h.1.1))
            ∙ ap (λ (i : ℕ). some (refusal 12 i)) (sym h.0))

-- ── the chains of checks ──
module _ (m : Mode) (t : List ℕ) where
  pub list-told : (s ws : List ℕ) → Tells (Row15 m t s ws ∷ []) (refuse_at 15 (bad_node (known m t) (length s) ws))
  list-told s ws =
      found_at 15 (FirstBad (known m t) (length s) ws) (bad_node (known m t) (length s) ws) (λ k. (first-bad (known m t) (length s) ws k).0)
      (λ k. (first-bad (known m t) (length s) ws k).1)

  -- 1 to 8, 9, 15, then 13
  pub json-chain : (s ws out : List ℕ)
      → Tells (json_checks m t s ws out)
      ((refuses m t ▸ refuses_list (prepared m t) s ws) ▸ refuse_if (ltb (length out) (length (list_text m t s ws))) 13 (min count_bound (length (list_text m t s ws))))
  json-chain s ws out =
      let need : ℕ = length (list_text m t s ws) in
      let a : Option Refusal = refuses_length s in
      let b : Option Refusal = refuse_at 15 (bad_node (known m t) (length s) ws) in
      let c : Option Refusal = refuse_if (ltb (length out) need) 13 (min count_bound need) in
      subst (Tells (json_checks m t s ws out)) (sym (assoc (refuses m t) (a ▸ b) c ∙ ap (λ (o : Option Refusal). refuses m t ▸ o) (assoc a b c)))
      (join (refuses m t) (a ▸ (b ▸ c)) (one-to-eight m t)
      (λ e. join a (b ▸ c) (over-told 9 input_bound input_bound (length s))
      (λ g. join b c (list-told s ws) (λ h. over-told 13 (min count_bound need) (length out) need))))

  -- 1 to 8, 9, 16, then 12
  module _ (bytes : AreBytes t) where
    pub read-chain : (s js ws : List ℕ) → Tells (read_checks m t s js ws) ((refuses m t ▸ refuses_length s) ▸ refuses_read (read_in (prepared m t) s js) ws)
    read-chain s js ws =
        let o : Option (List Node) = read_in (prepared m t) s js in
        let b : Option Refusal = refuse_if (not (is_text o)) 16 0 in
        let c : Option Refusal = refuse_if (ltb (room_of ws) (length (list_in o))) 12 (room_of ws) in
        subst (Tells (read_checks m t s js ws)) (sym (assoc (refuses m t) (refuses_length s) (b ▸ c)))
        (join (refuses m t) (refuses_length s ▸ (b ▸ c)) (one-to-eight m t)
        (λ e. join (refuses_length s) (b ▸ c) (over-told 9 input_bound input_bound (length s))
        (λ g. join b c (tells-16 m t s js (plain-names m t (bytes_of t bytes) e) (short-input s g))
        (λ h. tells-12 m t s js (plain-names m t (bytes_of t bytes) e) (short-input s g) ws (not-false (is_text o) (if_none (not (is_text o)) 16 0 h))))))

  -- ── demand 1 ──
  pub json-exactly : (s ws out : List ℕ) → Refuses (write_json_of m t s ws out).verdict (json_checks m t s ws out) ((write_json_of m t s ws out).out ≡ out)
  unfolding write_json_of
  json-exactly s ws out = room-exactly m t (list_text m t s ws) out _ (json-chain s ws out)

  pub read-json-exactly : AreBytes t → (s js ws : List ℕ) → Refuses (read_json_of m t s js ws).verdict (read_checks m t s js ws) ((read_json_of m t s js ws).words ≡ ws)
  unfolding read_json_of
  read-json-exactly bytes s js ws =
      let o : Option Refusal = (refuses m t ▸ refuses_length s) ▸ refuses_read (read_in (prepared m t) s js) ws in
      let l : List Node = list_in (read_in (prepared m t) s js) in
      by-check (read-chain bytes s js ws) (parse_after o l ws).verdict ((parse_after o l ws).words ≡ ws) (go o l) (λ r e. ap (λ (c : Option Refusal). (parse_after c l ws).words) e)
    where
      go : (c : Option Refusal) (l : List Node) → (parse_after c l ws).verdict ≡ c
      go none l = refl
      go (some r) l = refl

-- ── there and back ──
pub wrote_by : (x : Writing) (w out : List ℕ) → x ≡ write_after none w out → Wrote x w
wrote_by x w out f = record {
  accepted = ap (λ (y : Writing). y.verdict) f;
  count = ap (λ (y : Writing). y.bytes) f;
  front = sym (take-append_seam w (drop (length w) out)) ∙ ap (λ (y : Writing). take y.bytes y.out) (sym f);
}

module _ (m : Mode) (t s : List ℕ) (ok : refuses m t ≡ none) (fits : refuses_length s ≡ none) where
  -- what is read of a text that says ns, with room for them
  reads-list : (js vs : List ℕ) (ns : List Node) → read_in (prepared m t) s js ≡ some ns → length ns ≤ room_of vs
      → read_json_of m t s js vs ≡ parsing (room_of (words_in ns)) none (at_front (words_in ns) vs)
  unfolding read_json_of node_words
  reads-list js vs ns e l =
      ap (λ (o : Option (List Node)). parse_after ((refuses m t ▸ refuses_length s) ▸ refuses_read o vs) (list_in o) vs) e
      ∙ ap₂ (λ (a b : Option Refusal). parse_after ((a ▸ b) ▸ refuses_read (some ns) vs) ns vs) ok fits
      ∙ ap (λ (b : Bool). parse_after (refuse_if b 12 (room_of vs)) ns vs) (le-ltb (room_of vs) (length ns) l)
      ∙ ap₂ (λ (k : ℕ) (ws : List ℕ). parsing k none ws) (sym (words-room ns)) (written-front ns vs (omega (arith, l, words_long ns, room_fits vs)))

  -- what is written of a list
  writes-list : (ws out w : List ℕ) → bad_node (known m t) (length s) ws ≡ none → list_text m t s ws ≡ w → length w ≤ length out → write_json_of m t s ws out ≡ write_after none w out
  unfolding write_json_of
  writes-list ws out w e q l =
      ap (λ (v : List ℕ).
      write_after ((refuses m t ▸ (refuses_length s ▸ refuse_at 15 (bad_node (known m t) (length s) ws))) ▸ refuse_if (ltb (length out) (length v)) 13 (min count_bound (length v))) v out) q
      ∙ ap (λ (o : Option ℕ). write_after ((refuses m t ▸ (refuses_length s ▸ refuse_at 15 o)) ▸ refuse_if (ltb (length out) (length w)) 13 (min count_bound (length w))) w out) e
      ∙ ap₂ (λ (a b : Option Refusal). write_after ((a ▸ (b ▸ none)) ▸ refuse_if (ltb (length out) (length w)) 13 (min count_bound (length w))) w out) ok fits
      ∙ ap (λ (b : Bool). write_after (refuse_if b 13 (min count_bound (length w))) w out) (le-ltb (length out) (length w) l)

module _ (m : Mode) (t s : List ℕ) (bytes : AreBytes t) where
  back-there : (ws out vs : List ℕ) → NoRow (json_checks m t s ws out) → room_of ws ≤ room_of vs
      → (w : List ℕ) × Wrote (write_json_of m t s ws out) w × (read_json_of m t s w vs ≡ parsing (room_of ws) none (at_front ws vs))
  back-there ws out vs z l =
      let w : List ℕ = list_text m t s ws in
      let x : Option Refusal = refuse_if (ltb (length out) (length w)) 13 (min count_bound (length w)) in
      let all = split (refuses m t ▸ refuses_list (prepared m t) s ws) x (accepts (json-chain m t s ws out) z) in
      let two = split (refuses m t) (refuses_list (prepared m t) s ws) all.0 in
      let three = split (refuses_length s) (refuse_at 15 (bad_node (known m t) (length s) ws)) two.1 in
      let bad : bad_node (known m t) (length s) ws ≡ none = at_none 15 (bad_node (known m t) (length s) ws) three.1 in
      let g : Good (known m t) (length s) ws = good-parts (known m t) (length s) ws bad in
      let ns : List Node = nodes_at ws 0 (room_of ws) in
      let same : ws ≡ words_in ns = words-of-nodes ws (room_of ws) (sym g.exact) in
      let many : length ns ≡ room_of ws = nodes-long ws 0 (room_of ws) in
      let e : read_in (prepared m t) s w ≡ some ns =
      texts-are-read (symbol_of m t) (known m t) s (plain-names m t (bytes_of t bytes) two.0) (short-input s three.0) ns g.list (omega (arith, g.some-node, many)) in (
        w,
        wrote_by (write_json_of m t s ws out) w out
            (writes-list m t s two.0 three.0 ws out w bad refl (ltb-false (length out) (length w) (if_none (ltb (length out) (length w)) 13 (min count_bound (length w)) all.1))),
        reads-list m t s two.0 three.0 w vs ns e (omega (arith, l, many)) ∙ ap (λ (us : List ℕ). parsing (room_of us) none (at_front us vs)) (sym same),
      )

  only-by : (js vs : List ℕ) → refuses m t ≡ none → refuses_length s ≡ none → (o : Option (List Node)) → read_in (prepared m t) s js ≡ o → is_text o ≡ true → length (list_in o) ≤ room_of vs
      → (ws : List ℕ) × (read_json_of m t s js vs ≡ parsing (room_of ws) none (at_front ws vs)) × ((out : List ℕ) → length js ≤ length out → Wrote (write_json_of m t s ws out) js)
  only-by js vs ok fits none e i l = absurd (true≢false (sym i))
  only-by js vs ok fits (some ns) e i l =
      let w = read-only-texts (symbol_of m t) (known m t) s js ns e in (
        words_in ns,
        reads-list m t s ok fits js vs ns e l,
        λ out h. wrote_by (write_json_of m t s (words_in ns) out) js out
            (writes-list m t s ok fits (words_in ns) out js (list-good (known m t) (length s) ns w.many w.good) (ap (json_text (symbol_of m t) s) (words-read ns) ∙ sym w.text) h),
      )

  only-back : (js vs : List ℕ) → NoRow (read_checks m t s js vs)
      → (ws : List ℕ) × (read_json_of m t s js vs ≡ parsing (room_of ws) none (at_front ws vs)) × ((out : List ℕ) → length js ≤ length out → Wrote (write_json_of m t s ws out) js)
  only-back js vs z =
      let o : Option (List Node) = read_in (prepared m t) s js in
      let all = split (refuses m t ▸ refuses_length s) (refuses_read o vs) (accepts (read-chain m t bytes s js vs) z) in
      let two = split (refuses m t) (refuses_length s) all.0 in
      let three = split (refuse_if (not (is_text o)) 16 0) (refuse_if (ltb (room_of vs) (length (list_in o))) 12 (room_of vs)) all.1 in
      only-by js vs two.0 two.1 o refl (not-false (is_text o) (if_none (not (is_text o)) 16 0 three.0))
      (ltb-false (room_of vs) (length (list_in o)) (if_none (ltb (room_of vs) (length (list_in o))) 12 (room_of vs) three.1))

pub json-back : JsonBack
json-back = record {
  there = λ m t s ws out vs b. back-there m t s b ws out vs;
  only = λ m t s js vs b. only-back m t s b js vs;
  tree = λ m t s ws. tree-text m t s ws;
}
