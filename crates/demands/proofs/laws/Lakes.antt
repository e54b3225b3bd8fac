-- Demand 2 on the lake question: the way it answers is the way of the rules, and no other (01, Meaning of a match). Assumes nothing.
use Prim.Native.Nat.{ℕ, zero, suc, ◌≤◌}
use Rattle.std.specs.Prelude.{◌≡◌, refl, Bool, true, false, ◌&&◌, length, get_or, ltb, eqb}
use Rattle.std.proofs.Math.Path.{ap, ap₂}
use Rattle.std.proofs.Common.{◌∙◌, subst, sym as flip, arith, ltb-true, ltb-false, lt-ltb, le-ltb, le-leb, ne_eqb}
use Rattle.std.proofs.Math.Bool.{not, and-false}
use mathlib.Core.List.{List, [], ◌∷◌}
use Rattle.std.proofs.Math.Option.{Option, none, some}
use Rattle.std.proofs.Math.Dec.{leb}
use Rattle.base_facts.specs.laws.Bools.{and_parts}
use Rattle.read_tokens.specs.Token.{name}
use Rattle.read_tokens.specs.Bounds.{input_bound}
use Rattle.read_tokens.specs.declared.Mode.{Mode}
use Rattle.grammar.specs.Exp.{Exp}
use Rattle.grammar.specs.Numbers.{is_lake}
use Rattle.grammar.specs.Refusal.{Refusal, refuse_if, ◌▸◌}
use Rattle.match_meaning.specs.Meaning.{lake, Meant, Node, own, wet, some_of, Tries, own-none, own_is, dry, wet-is, none_of, this-one, later-one, Derives}
use Rattle.match_meaning.proofs.laws.One.{one}
use Rattle.match_eval.specs.Eval.{ev}
use Rattle.match_cells.specs.laws.Agrees.{Right}
use Rattle.match_derived.specs.laws.Whole.{Holds, evaluated}
use Rattle.match_lake.specs.Asking.{none_matches, own_takes, way_number, way_in}
use Rattle.prepare.specs.Prepare.{prepared, refuses}
use Rattle.gurkenmond.specs.Calls.{LakeAnswer, cells_needed, refuses_input, filled, is_lake_at, lake_after, lake_of, match_of}
use Rattle.demands.specs.Meant.{stands_for, stands_in, right_at, alternatives_at, meant}
use Rattle.demands.specs.Ways.{Ways, own-takes, water-takes, skips, stops, ends}
use Rattle.demands.proofs.laws.Meant.{bodies-meant}
use Rattle.demands.proofs.laws.Cells.{filled-as-meant, input-clear, cells-filled}

-- ── the number by its three tests ──
abbrev picked : Bool → Bool → Bool → ℕ
picked true w m = 1
picked false true m = 2
picked false false true = 3
picked false false false = 0

-- whether a result is a success
abbrev success : ℕ → Bool
success zero = false
success (suc x) = true

fails-is : (x : ℕ) → eqb x 0 ≡ not (success x)
fails-is zero = refl
fails-is (suc x) = ne_eqb (suc x) 0 (λ e. omega (arith, e))

takes-is : (x : ℕ) → not (eqb x 0) ≡ success x
takes-is zero = refl
takes-is (suc x) = ap not (ne_eqb (suc x) 0 (λ e. omega (arith, e)))

module _ (bodies : List (Exp ℕ)) (g : Meant) (held : Holds bodies g) (s cs : List ℕ) (right : Right bodies s cs) (q : ℕ) (in-text : q ≤ length s) where
  abbrev n : ℕ
  n = length bodies

  abbrev number : Option (Exp ℕ) → List (Exp ℕ) → ℕ
  number o ss = way_number s cs n o g.water ss q

  picks : (a b c : Bool) → elim a as (λ _. ℕ) [ true ↦ 1 | false ↦ elim b as (λ _. ℕ) [ true ↦ 2 | false ↦ elim c as (λ _. ℕ) [ true ↦ 3 | false ↦ 0 ] ] ] ≡ picked a b c
  picks true b c = refl
  picks false true c = refl
  picks false false true = refl
  picks false false false = refl

  as_picked : (o : Option (Exp ℕ)) (ss : List (Exp ℕ)) → number o ss ≡ picked (own_takes s cs n o q) (own_takes s cs n g.water q) (ltb q (length s) && none_matches s cs n ss q)
  unfolding way_number
  as_picked o ss = picks (own_takes s cs n o q) (own_takes s cs n g.water q) (ltb q (length s) && none_matches s cs n ss q)

  by_tests : (o : Option (Exp ℕ)) (ss : List (Exp ℕ)) (a b c : Bool) → own_takes s cs n o q ≡ a → own_takes s cs n g.water q ≡ b
      → (ltb q (length s) && none_matches s cs n ss q) ≡ c → number o ss ≡ picked a b c
  by_tests o ss a b c x y z =
      as_picked o ss ∙ ap (λ (i : Bool). picked i (own_takes s cs n g.water q) (ltb q (length s) && none_matches s cs n ss q)) x
      ∙ ap₂ (picked a) y z

  -- ── each test has its derivation, at every depth ──
  own-tried : (o : Option (Exp ℕ)) (d : ℕ) → (x : ℕ) × (ns : List Node) × Tries g s d (own o) q x ns × (own_takes s cs n o q ≡ success x)
  own-tried none d = (0, [], own-none, refl)
  own-tried (some e) d = let w = evaluated bodies g held s cs right e d q in-text in (ev s cs n e q, w.0, own_is w.1, takes-is (ev s cs n e q))

  wet-tried : (w : Option (Exp ℕ)) (d : ℕ) → (x : ℕ) × (ns : List Node) × Tries g s d (wet w) q x ns × (own_takes s cs n w q ≡ success x)
  wet-tried none d = (0, [], dry, refl)
  wet-tried (some e) d = let w = evaluated bodies g held s cs right e d q in-text in (ev s cs n e q, w.0, wet-is w.1, takes-is (ev s cs n e q))

  some-tried : (ss : List (Exp ℕ)) (d : ℕ) → (x : ℕ) × (ns : List Node) × Tries g s d (some_of ss) q x ns × (none_matches s cs n ss q ≡ not (success x))
  unfolding none_matches
  some-tried [] d = (0, [], none_of, refl)
  some-tried (e ∷ ss) d = let w = evaluated bodies g held s cs right e d q in-text in go (ev s cs n e q) w.0 w.1 (some-tried ss d)
    where
      go : (x : ℕ) (ns : List Node) → Derives g s d e q x ns → ((y : ℕ) × (ms : List Node) × Tries g s d (some_of ss) q y ms × (none_matches s cs n ss q ≡ not (success y)))
          → (y : ℕ) × (ms : List Node) × Tries g s d (some_of (e ∷ ss)) q y ms × ((eqb x 0 && none_matches s cs n ss q) ≡ not (success y))
      go zero ns t r = (r.0, r.1, later-one t r.2, r.3)
      go (suc x) ns t r = (suc x, ns, this-one t, ap (λ (b : Bool). b && none_matches s cs n ss q) (fails-is (suc x)))

  module _ (o : Option (Exp ℕ)) (ss : List (Exp ℕ)) (d : ℕ) where
    own-is-so : {x : ℕ} {ns : List Node} → Tries g s d (own o) q x ns → own_takes s cs n o q ≡ success x
    own-is-so t = let w = own-tried o d in w.3 ∙ ap success (one g s w.2 t).0

    wet-is-so : {x : ℕ} {ns : List Node} → Tries g s d (wet g.water) q x ns → own_takes s cs n g.water q ≡ success x
    wet-is-so t = let w = wet-tried g.water d in w.3 ∙ ap success (one g s w.2 t).0

    some-is-so : {x : ℕ} {ns : List Node} → Tries g s d (some_of ss) q x ns → none_matches s cs n ss q ≡ not (success x)
    some-is-so t = let w = some-tried ss d in w.3 ∙ ap (λ (x : ℕ). not (success x)) (one g s w.2 t).0

    -- whatever way the rules have, the number is of that way
    way-only : {w : ℕ} → Ways g s d o ss q w → number o ss ≡ w
    way-only (own-takes t) = (by_tests o ss true _ _ (own-is-so t) refl refl)
    way-only (water-takes t u) = (by_tests o ss false true _ (own-is-so t) (wet-is-so u) refl)
    way-only (skips t u v h) = (by_tests o ss false false true (own-is-so t) (wet-is-so u) (ap₂ ◌&&◌ (lt-ltb q (length s) h) (some-is-so v)))
    way-only (stops t u v) = (by_tests o ss false false false (own-is-so t) (wet-is-so u) (ap (λ (b : Bool). ltb q (length s) && b) (some-is-so v) ∙ and-false (ltb q (length s))))
    way-only (ends t u h) = (by_tests o ss false false false (own-is-so t) (wet-is-so u) (ap (λ (b : Bool). b && none_matches s cs n ss q) (le-ltb q (length s) h)))

    -- and the rules have one
    abbrev Found : Type 0
    Found = (w : ℕ) × Ways g s d o ss q w

    by_place : {ns ms ks : List Node} → Tries g s d (own o) q 0 ns → Tries g s d (wet g.water) q 0 ms → (x : ℕ) → Tries g s d (some_of ss) q x ks → (b : Bool) → ltb q (length s) ≡ b → Found
    by_place t u zero v true h = (3, skips t u v (ltb-true q (length s) h))
    by_place t u zero v false h = (0, ends t u (ltb-false q (length s) h))
    by_place t u (suc x) v b h = (0, stops t u v)

    by-wet : {ns ms : List Node} → Tries g s d (own o) q 0 ns → (x : ℕ) → Tries g s d (wet g.water) q x ms → Found
    by-wet t zero u = by_place t u (some-tried ss d).0 (some-tried ss d).2 (ltb q (length s)) refl
    by-wet t (suc x) u = (2, water-takes t u)

    by-own : {ns : List Node} → (x : ℕ) → Tries g s d (own o) q x ns → Found
    by-own zero t = by-wet t (wet-tried g.water d).0 (wet-tried g.water d).2
    by-own (suc x) t = (1, own-takes t)

    way-found : Ways g s d o ss q (number o ss)
    way-found = let f : Found = by-own (own-tried o d).0 (own-tried o d).2 in subst (Ways g s d o ss q) (flip (way-only f.1)) f.1

-- ── the lake question that 1 to 10 and 14 do not refuse ──
module _ (m : Mode) (t s cs : List ℕ) (l q : ℕ) (ok : refuses m t ≡ none) (short : length s ≤ input_bound) (room : cells_needed (prepared m t) s ≤ length cs)
    (is-lake : is_lake_at (prepared m t) l ≡ true) (in-text : q ≤ length s) where
  lake-clear : lake_of m t s cs l q ≡ lake_after none (prepared m t) s cs l q
  unfolding lake_of
  lake-clear =
      ap (λ (o : Option Refusal). lake_after (o ▸ (refuses_input (prepared m t) s cs ▸ refuse_if (not (is_lake_at (prepared m t) l && leb q (length s))) 14 0)) (prepared m t) s cs l q) ok
      ∙ ap (λ (o : Option Refusal). lake_after (o ▸ refuse_if (not (is_lake_at (prepared m t) l && leb q (length s))) 14 0) (prepared m t) s cs l q) (input-clear m t s cs [] ok short room)
      ∙ ap₂ (λ (a b : Bool). lake_after (refuse_if (not (a && b)) 14 0) (prepared m t) s cs l q) is-lake (le-leb q (length s) in-text)

  -- the lake's own right side, if it has a rule, and its alternative symbols
  abbrev right_side : Option (Exp ℕ)
  right_side = right_at (prepared m t).grammar l

  abbrev alternative-symbols : List (Exp ℕ)
  alternative-symbols = alternatives_at (prepared m t).grammar (prepared m t).analysis l

  -- they are what the lake stands for
  pub lake-stands : (meant m t).body l ≡ lake right_side alternative-symbols
  lake-stands =
      let w = and_parts (ltb l (length (prepared m t).grammar.names)) (is_lake (get_or (prepared m t).grammar.names l (name []))) is-lake in
      ap (λ (b : Bool). stands_in b (prepared m t).grammar (prepared m t).analysis l) w.0 ∙ ap (λ (b : Bool). stands_for b right_side alternative-symbols) w.1

  way-is : (lake_of m t s cs l q).way ≡ way_number s (filled (prepared m t) s cs) (length (prepared m t).bodies) right_side (meant m t).water alternative-symbols q
  unfolding way_in
  way-is = ap (λ (a : LakeAnswer). a.way) lake-clear

  -- whatever way the rules have at whatever depth, it is the answer
  pub lake-only : {d : ℕ} {w : ℕ} → Ways (meant m t) s d right_side alternative-symbols q w → (lake_of m t s cs l q).way ≡ w
  lake-only {d} w =
      way-is ∙ way-only (prepared m t).bodies (meant m t) (bodies-meant m t) s (filled (prepared m t) s cs) (filled-as-meant m t ok s cs room) q in-text right_side alternative-symbols d w

  -- and the answer is a way that the rules have
  pub lake-meant : (d : ℕ) → Ways (meant m t) s d right_side alternative-symbols q (lake_of m t s cs l q).way
  lake-meant d =
      subst (Ways (meant m t) s d right_side alternative-symbols q) (flip way-is)
      (way-found (prepared m t).bodies (meant m t) (bodies-meant m t) s (filled (prepared m t) s cs) (filled-as-meant m t ok s cs room) q in-text right_side alternative-symbols d)

  -- the cells are those of a match
  pub lake-cells : (ws : List ℕ) → (lake_of m t s cs l q).cells ≡ (match_of m t s cs ws).cells
  lake-cells ws = ap (λ (a : LakeAnswer). a.cells) lake-clear ∙ flip (cells-filled m t s cs ws ok short room)
