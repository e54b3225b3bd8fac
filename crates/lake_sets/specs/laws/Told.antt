-- What the code leaves in lent memory is the analysis of the grammar whose intermediate form the table holds. Assumes nothing.
use Prim.Native.Nat.{ℕ, zero, suc, ◌+◌, ◌-◌, ◌*◌, ◌≤◌, ◌<◌}
use Rattle.std.specs.Prelude.{◌≡◌, ◌⊎◌, true, cond, take, replicate, ltb}
use Rattle.std.proofs.Math.Path.{refl, sym, ap, fun_ext}
use Rattle.std.proofs.Common.{ap₂, ◌∙◌, subst, inl, inr, ⊎_elim, arith, add-one, get_or-take}
use Rattle.std.proofs.Math.Bool.{Bool, false}
use mathlib.Core.List.{List, [], ◌∷◌, ◌++◌, map}
use Rattle.std.proofs.Math.Option.{Option, none, some}
use Rattle.std.proofs.Math.ListN.{length, get_or, get_or-map}
use Rattle.std.proofs.lemmas.List.{length-replicate, length-map}
use borrow.Author.Tests.{lt-ltb}
use Rattle.read_tokens.specs.Token.{Leaf}
use Rattle.base_words.specs.Set.{union_of, empty}
use Rattle.base_rounds.specs.Flow.{Edge}
use Rattle.base_rounds.specs.Rounds.{iter, Settled, settled}
use Rattle.base_rounds.specs.laws.Flow.{Inside}
use Rattle.grammar.specs.Exp.{Exp}
use Rattle.grammar.specs.Numbers.{Grammar}
use Rattle.grammar.specs.Parts.{Part, terminal, occurs, sequence, choice, option, repeat, repeat1, affirms, denies, parts_all}
use Rattle.grammar_table.specs.Table.{up_to, part_in, parts_in, roots_in, symbol_word, symbol_count, terminal_count, expression_count}
use Rattle.grammar_table.specs.Holds.{Holds, present, roots_from}
use Rattle.lake_step_one.specs.Intermediate.{intermediate}
use Rattle.lake_rules.specs.Beginning.{Beginning, nothing, begin, marked, mark_round, marks_by, right_empty, root_eps, beginnings}
use Rattle.lake_rules.specs.Flows.{edge, edge_into, Gift, gift, when, over_parts, least_by, succeed_gifts, succeed_edges, alt_gifts, alt_edges}
use Rattle.lake_rules.specs.Analysis.{Analysis, analysed, analysis_in, analysis, is_use, uses_alt, lake_alt}
use Rattle.grammar.specs.Numbers.{terminal_in}
use Rattle.lake_sets.specs.steps.Steps.{pair_at, root_in, alt_by, alt_in, Tame, begins_in, mark_next, marks_in, kept, edges_by, handed, succeed_given, alt_given}
use Rattle.lake_rules.specs.laws.Wholes.{Ok}
use Rattle.lake_rules.specs.laws.Reached.{Flowed}
use Rattle.lake_step_one.specs.Proper.{Sound, SoundAll, Proper, middle}
use Rattle.lake_sets.specs.steps.Analysed.{Analysed}
use Rattle.grammar_table.specs.laws.Places.{up_to-long, up_to-at, is-up_to}
use Rattle.lake_rules.specs.laws.Begins.{begins-rule, begins-long}
use Rattle.lake_rules.proofs.laws.Over.{over-next, over_none}
use Rattle.lake_sets.specs.laws.Edges.{handed-inside}
use Rattle.grammar_table.specs.laws.Parts.{total, all-long, root-le}
use Rattle.lake_step_one.proofs.laws.Held.{part_of, names-are, terminals-are, rights-long, expressions-are}
use Rattle.lake_rules.specs.laws.Wholes.{OkAll, ok_at, all-ok, eps-body}
use Rattle.lake_rules.proofs.laws.Uses.{alt-by-uses}
use Rattle.lake_rules.specs.laws.Reached.{begins-good, over-good, succeed-good, alt-good, least-is, state-at}

-- ---- lists that agree expression by expression
over-same : {A : Type 0} (f g : ℕ → Part → List A) (part : ℕ → Part) (n : ℕ) → ((i : ℕ) → i < n → f i (part i) ≡ g i (part i)) → over_parts f 0 (up_to part n) ≡ over_parts g 0 (up_to part n)
over-same f g part zero h = over_none f part ∙ sym (over_none g part)
over-same f g part (suc n) h =
    rw (← add-one n) (over-next f part n ∙ ap₂ (λ a b. a ++ b) (over-same f g part n (λ i l. h i (omega arith))) (h n (omega arith)) ∙ sym (over-next g part n))

-- the gifts hang on the sets alone
succeed-same : (bs cs : ℕ → Beginning) (f g : ℕ → ℕ) → ((i : ℕ) → (bs i).set ≡ (cs i).set) → (i : ℕ) (p : Part) → succeed_gifts bs f i p ≡ succeed_gifts cs g i p
succeed-same bs cs f g h i (terminal t) = refl
succeed-same bs cs f g h i (occurs r) = refl
succeed-same bs cs f g h i (sequence a b) = ap (λ (s : List ℕ). gift a s ∷ []) (h b)
succeed-same bs cs f g h i (choice a b) = refl
succeed-same bs cs f g h i (option a) = refl
succeed-same bs cs f g h i (repeat a) = ap (λ (s : List ℕ). gift a s ∷ []) (h a)
succeed-same bs cs f g h i (repeat1 a) = ap (λ (s : List ℕ). gift a s ∷ []) (h a)
succeed-same bs cs f g h i (affirms a) = refl
succeed-same bs cs f g h i (denies a) = refl

alt-same : (bs : ℕ → Beginning) (f g : ℕ → ℕ) (succ : ℕ → List ℕ) (i : ℕ) (p : Part) → alt_gifts bs f succ i p ≡ alt_gifts bs g succ i p
alt-same bs f g succ i (terminal t) = refl
alt-same bs f g succ i (occurs r) = refl
alt-same bs f g succ i (sequence a b) = refl
alt-same bs f g succ i (choice a b) = refl
alt-same bs f g succ i (option a) = refl
alt-same bs f g succ i (repeat a) = refl
alt-same bs f g succ i (repeat1 a) = refl
alt-same bs f g succ i (affirms a) = refl
alt-same bs f g succ i (denies a) = refl

-- where parts come before wholes and each root is one of them, every edge is kept
module _ (n r x : ℕ) (bs cs : ℕ → Beginning) (f g : ℕ → ℕ) (h : (i : ℕ) → (bs i).eps ≡ (cs i).eps) (same : (s : ℕ) → s < r → f s ≡ g s) (ins : (s : ℕ) → s < r → g s ≤ n) (i : ℕ) (l : i < n) where
  one : (j : ℕ) → j < n → kept n (edge i j ∷ []) ≡ edge i j ∷ []
  unfolding kept
  one j p = rw (lt-ltb j n p)

  two : (j k : ℕ) → j < n → k < n → kept n (edge i j ∷ edge i k ∷ []) ≡ edge i j ∷ edge i k ∷ []
  unfolding kept
  two j k p q = rw (lt-ltb j n p, lt-ltb k n q)

  may : (b c : Bool) (j k : ℕ) → b ≡ c → j < n → k < n → kept n (edge i j ∷ when b (edge i k)) ≡ edge i j ∷ when c (edge i k)
  may true true j k e p q = two j k p q
  may false false j k e p q = one j p
  may true false j k e p q = ap (λ (d : Bool). kept n (edge i j ∷ when d (edge i k))) e ∙ one j p
  may false true j k e p q = ap (λ (d : Bool). kept n (edge i j ∷ when d (edge i k))) e ∙ two j k p q

  none_kept : kept n [] ≡ []
  unfolding kept
  none_kept = refl

  into : (k : ℕ) → k ≤ n → kept n (edge_into i k) ≡ edge_into i k
  into zero p = none_kept
  into (suc e) p = one e (omega arith)

  body : (s : ℕ) → s < r → kept n (edge_into i (f s)) ≡ edge_into i (g s)
  body s p = ap (λ (k : ℕ). kept n (edge_into i k)) (same s p) ∙ into (g s) (ins s p)

  pub edges-same : (back : Bool) (p : Part) → Ok r x i p → kept n (edges_by back bs f i p) ≡ edges_by back cs g i p
  edges-same true (terminal t) k = none_kept
  edges-same true (occurs s) k = body s k
  edges-same true (sequence a b) k = may (bs b).eps (cs b).eps b a (h b) (omega arith) (omega arith)
  edges-same true (choice a b) k = two a b (omega arith) (omega arith)
  edges-same true (option a) k = one a (omega arith)
  edges-same true (repeat a) k = one a (omega arith)
  edges-same true (repeat1 a) k = one a (omega arith)
  edges-same true (affirms a) k = none_kept
  edges-same true (denies a) k = none_kept
  edges-same false (terminal t) k = none_kept
  edges-same false (occurs s) k = body s k
  edges-same false (sequence a b) k = may (bs a).eps (cs a).eps a b (h a) (omega arith) (omega arith)
  edges-same false (choice a b) k = two a b (omega arith) (omega arith)
  edges-same false (option a) k = one a (omega arith)
  edges-same false (repeat a) k = one a (omega arith)
  edges-same false (repeat1 a) k = one a (omega arith)
  edges-same false (affirms a) k = none_kept
  edges-same false (denies a) k = none_kept

pub flowed-as : {n k : ℕ} {s : List (List ℕ)} {gs hs : List Gift} {es fs : List Edge} → Flowed n gs es k s → gs ≡ hs → es ≡ fs → Flowed n hs fs k s
flowed-as {n} {k} {s} {gs} {hs} {es} {fs} f p q = subst (λ (l : List Gift). Flowed n l fs k s) p (subst (λ (l : List Edge). Flowed n gs l k s) q f)

module _ (t : List ℕ) (g : Grammar) (h : Holds t (middle g)) (proper : Proper g) where
  abbrev rights : List (Option (Exp ℕ))
  rights = intermediate g

  abbrev n : ℕ
  n = expression_count t

  abbrev R : ℕ
  R = length g.names

  abbrev X : ℕ
  X = length g.terminals

  n-is : n ≡ total (present rights)
  n-is = expressions-are t (middle g) h

  symbols-is : symbol_count t ≡ R
  symbols-is = names-are t (middle g) h

  rights-is : symbol_count t ≡ length rights
  rights-is = rights-long t (middle g) h

  parts_is : up_to (part_in t) n ≡ parts_all (terminal_in g) 0 (present rights)
  unfolding parts_in
  parts_is = h.parts

  pub roots-is : (s : ℕ) → s < R → root_in t s ≡ get_or (roots_from 0 rights) s 0
  unfolding roots_in
  roots-is s l = sym (up_to-at (λ r. symbol_word t r 1) (symbol_count t) s 0 (omega (arith, symbols-is))) ∙ ap (λ (w : List ℕ). get_or w s 0) h.roots

  pub part-ok : (i : ℕ) → i < n → Ok R X i (part_in t i)
  part-ok i l =
      let d : Part = terminal 0 in
      let ps = parts_all (terminal_in g) 0 (present rights) in
      subst (λ (p : Part). Ok R X i p) (ap (λ (qs : List Part). get_or qs i d) (sym parts_is) ∙ up_to-at (part_in t) n i d l)
      (subst (λ (k : ℕ). Ok R X k (get_or ps i d)) (let q : 0 + i ≡ i = omega arith in q)
      (ok_at (terminal_in g) R X 0 ps d (all-ok (terminal_in g) R X (present rights) 0 proper) i (rw (all-long (terminal_in g) (present rights) 0) (omega (arith, n-is)))))

  pub tame : Tame t n R X
  tame = record {
    symbols = omega (arith, h.few-symbols, symbols-is);
    terminals = omega (arith, h.few-terminals, terminals-are t (middle g) h);
    parts = part-ok;
    roots = λ s l. rw (roots-is s l) (omega (arith, n-is, root-le rights 0 s));
  }

  -- ---- ε marks
  module _ (ms : List Bool) where
    rule : (i : ℕ) → i < n → get_or (begins_in t ms n) i nothing ≡ Rattle.lake_rules.specs.Beginning.begin_by (marked ms) (λ j. get_or (begins_in t ms n) j nothing) (part_in t i)
    rule i l = begins-rule (marked ms) (part_in t) R X n i l (part-ok i l)

    mark-at : (s : ℕ) → s < R → root_eps (λ j. get_or (begins_in t ms n) j nothing) (root_in t s) ≡ right_empty (marked ms) (get_or rights s none)
    mark-at s l =
        ap (root_eps (λ j. get_or (begins_in t ms n) j nothing)) (roots-is s l)
        ∙ eps-body (terminal_in g) (part_in t) (terminal 0) (marked ms) (λ j. get_or (begins_in t ms n) j nothing) n R X rule rights 0 proper
        (part_of t (parts_all (terminal_in g) 0 (present rights)) parts_is) (omega (arith, n-is)) s

    pub round_is : length ms ≡ R → mark_next t n ms ≡ mark_round right_empty rights ms
    unfolding mark_round
    round_is e =
        let f : Option (Exp ℕ) → Bool = right_empty (marked ms) in
        sym (is-up_to false (λ r. root_eps (λ j. get_or (begins_in t ms n) j nothing) (root_in t r)) (map f rights) (length ms)
        (length-map rights f ∙ (let q : length rights ≡ length ms = omega (arith, symbols-is, rights-is) in q))
        (λ i l. get_or-map f rights i none ∙ sym (mark-at i (omega arith))))

  marks-long : (k : ℕ) → length (marks_in t n R k) ≡ R
  marks-long zero = length-replicate R false
  marks-long (suc k) = up_to-long (λ r. root_eps (λ j. get_or (begins_in t (marks_in t n R k) n) j nothing) (root_in t r)) (length (marks_in t n R k)) ∙ marks-long k

  marks-at : (k : ℕ) → marks_in t n R k ≡ iter (mark_round right_empty rights) (replicate R false) k
  marks-at zero = refl
  marks-at (suc k) = round_is (marks_in t n R k) (marks-long k) ∙ ap (mark_round right_empty rights) (marks-at k)

  pub marks-is : marks_in t n R R ≡ marks_by right_empty rights
  unfolding marks_by
  marks-is = let q : R ≡ length rights = omega (arith, symbols-is, rights-is) in marks-at R ∙ ap (λ (k : ℕ). iter (mark_round right_empty rights) (replicate k false) k) q

  -- ---- all of it
  module _ (ms : List Bool) (sets : List (List ℕ)) (eps : List Bool) (succ alts : List (List ℕ)) (j k : ℕ)
      (hm : ms ≡ marks_in t n R R) (hb : (i : ℕ) → pair_at sets eps i ≡ get_or (begins_in t ms n) i nothing)
      (hs : Flowed n (succeed_given t sets n) (handed t eps true n n) j succ) (ha : Flowed n (alt_given t sets eps succ n) (handed t eps false n n) k alts) where
    abbrev bs : ℕ → Beginning
    bs i = get_or (begins_in t ms n) i nothing

    abbrev root : ℕ → ℕ
    root s = get_or (roots_from 0 rights) s 0

    bs-is : pair_at sets eps ≡ bs
    bs-is = fun_ext hb

    edges-is : (back : Bool) → handed t eps back n n ≡ over_parts (edges_by back bs root) 0 (up_to (part_in t) n)
    edges-is back =
        over-same (λ i p. kept n (edges_by back (pair_at [] eps) (root_in t) i p)) (edges_by back bs root) (part_in t) n
        (λ i l. edges-same n R X (pair_at [] eps) bs (root_in t) root (λ a. ap (λ (z : Beginning). z.eps) (hb a)) roots-is (λ s p. rw (sym (roots-is s p)) (tame.roots s p)) i l back (part_in t i)
        (part-ok i l))

    inside : (back : Bool) → Inside n (over_parts (edges_by back bs root) 0 (up_to (part_in t) n))
    inside back = subst (Inside n) (edges-is back) (handed-inside t eps back n)

    succeed-is : succeed_given t sets n ≡ over_parts (succeed_gifts bs root) 0 (up_to (part_in t) n)
    succeed-is = over-same (succeed_gifts (pair_at sets []) (root_in t)) (succeed_gifts bs root) (part_in t) n
        (λ i l. succeed-same (pair_at sets []) bs (root_in t) root (λ a. ap (λ (z : Beginning). z.set) (hb a)) i (part_in t i))

    alt-is : alt_given t sets eps succ n ≡ over_parts (alt_gifts bs root (λ i. get_or succ i empty)) 0 (up_to (part_in t) n)
    alt-is =
        over-same (alt_gifts (pair_at sets eps) (root_in t) (λ i. get_or succ i empty)) (alt_gifts bs root (λ i. get_or succ i empty)) (part_in t) n
        (λ i l. ap (λ (b : ℕ → Beginning). alt_gifts b (root_in t) (λ a. get_or succ a empty) i (part_in t i)) bs-is ∙ alt-same bs (root_in t) root (λ a. get_or succ a empty) i (part_in t i))

    sets-good : (i : ℕ) → Rattle.lake_rules.specs.laws.Reached.Good R X (bs i).set
    sets-good = begins-good R X (marked ms) (part_in t) n part-ok

    abbrev SG : List Gift
    SG = over_parts (succeed_gifts bs root) 0 (up_to (part_in t) n)

    abbrev AG : List Gift
    AG = over_parts (alt_gifts bs root (λ i. get_or succ i empty)) 0 (up_to (part_in t) n)

    pub succeed-flowed : Flowed n SG (over_parts (edges_by true bs root) 0 (up_to (part_in t) n)) j succ
    succeed-flowed = flowed-as hs succeed-is (edges-is true)

    pub alt-flowed : Flowed n AG (over_parts (edges_by false bs root) 0 (up_to (part_in t) n)) k alts
    alt-flowed = flowed-as ha alt-is (edges-is false)

    sg-good : Rattle.lake_rules.specs.laws.Reached.GoodGifts R X SG
    sg-good = over-good R X (succeed_gifts bs root) (succeed-good R X bs root sets-good) 0 (up_to (part_in t) n)

    succeed-least : least_by (n * (R + X)) n SG (over_parts (edges_by true bs root) 0 (up_to (part_in t) n)) ≡ settled j succ
    succeed-least = least-is R X n SG (over_parts (edges_by true bs root) 0 (up_to (part_in t) n)) j succ succeed-flowed (inside true) sg-good

    succ-at : (i : ℕ) → Rattle.lake_rules.specs.laws.Reached.Good R X (get_or succ i empty)
    succ-at = state-at R X n SG (over_parts (edges_by true bs root) 0 (up_to (part_in t) n)) j succ succeed-flowed (inside true) sg-good

    alt-least : least_by (n * (R + X)) n AG (over_parts (edges_by false bs root) 0 (up_to (part_in t) n)) ≡ settled k alts
    alt-least =
        least-is R X n AG (over_parts (edges_by false bs root) 0 (up_to (part_in t) n)) k alts alt-flowed (inside false)
        (over-good R X (alt_gifts bs root (λ i. get_or succ i empty)) (alt-good R X bs root (λ i. get_or succ i empty) sets-good succ-at) 0 (up_to (part_in t) n))

    abbrev P : List Part
    P = up_to (part_in t) n

    abbrev most : ℕ
    most = n * (R + X)

    S : least_by most (length P) SG (over_parts (succeed_edges bs root) 0 P) ≡ settled j succ
    S = ap (λ (l : ℕ). least_by most l SG (over_parts (succeed_edges bs root) 0 P)) (up_to-long (part_in t) n) ∙ succeed-least

    A : least_by most (length P) (over_parts (alt_gifts bs root (λ i. get_or (least_by most (length P) SG (over_parts (succeed_edges bs root) 0 P)).state i empty)) 0 P)
        (over_parts (alt_edges bs root) 0 P) ≡ settled k alts
    A =
        ap (λ (w : Settled (List (List ℕ))). least_by most (length P) (over_parts (alt_gifts bs root (λ i. get_or w.state i empty)) 0 P) (over_parts (alt_edges bs root) 0 P)) S
        ∙ ap (λ (l : ℕ). least_by most l AG (over_parts (alt_edges bs root) 0 P)) (up_to-long (part_in t) n) ∙ alt-least

    here : Analysed (analysed ms (roots_from 0 rights) P most) ms sets eps succ alts k
    unfolding analysed
    here = record {
      marks-is = refl;
      begins-is = hb;
      succeeds-is = sym (ap (λ (w : Settled (List (List ℕ))). w.state) S);
      alts-is = sym (ap (λ (w : Settled (List (List ℕ))). w.state) A);
      rounds-is = sym (ap (λ (w : Settled (List (List ℕ))). w.count) A);
    }

    analysis-is : analysed ms (roots_from 0 rights) P most ≡ analysis g
    unfolding analysis analysis_in
    analysis-is =
        ap (λ (m : List Bool). analysed m (roots_from 0 rights) P most) (hm ∙ marks-is)
        ∙ ap (λ (l : ℕ). analysed (marks_by right_empty rights) (roots_from 0 rights) P (l * (R + X))) (sym (up_to-long (part_in t) n))
        ∙ ap (λ (ps : List Part). analysed (marks_by right_empty rights) (roots_from 0 rights) ps (length ps * (R + X))) parts_is

    pub told : Analysed (analysis g) ms sets eps succ alts k
    told = subst (λ (a : Analysis). Analysed a ms sets eps succ alts k) analysis-is here

-- ---- ALT of a symbol
uses-same : (p q : ℕ → Part) (a b : ℕ → List ℕ) (r n : ℕ) → ((i : ℕ) → i < n → p i ≡ q i) → ((i : ℕ) → i < n → a i ≡ b i) → uses_alt p a r n ≡ uses_alt q b r n
unfolding uses_alt
uses-same p q a b r zero h k = refl
uses-same p q a b r (suc n) h k =
    let old : uses_alt p a r n ≡ uses_alt q b r n = uses-same p q a b r n (λ i l. h i (omega arith)) (λ i l. k i (omega arith)) in
    ap (λ (x : Part). cond (is_use x r) (union_of (uses_alt p a r n) (a n)) (uses_alt p a r n)) (h n (omega arith))
    ∙ ap₂ (λ (u v : List ℕ). cond (is_use (q n) r) (union_of u v) u) old (k n (omega arith))

module _ (t : List ℕ) (g : Grammar) (h : Holds t (middle g)) (proper : Proper g) (alts : List (List ℕ)) (are : take (expression_count t) alts ≡ (analysis g).alts) where
  same : (i : ℕ) → i < expression_count t → get_or alts i empty ≡ get_or (analysis g).alts i empty
  same i l = sym (get_or-take (expression_count t) alts i empty l) ∙ ap (λ (y : List (List ℕ)). get_or y i empty) are

  by-root : (s w : ℕ) → s < length g.names → root_in t s ≡ w → alt_by t alts s w ≡ lake_alt (analysis g) s
  unfolding analysis analysis_in analysed lake_alt parts_in
  by-root s zero l e =
      let ps : List Part = parts_all (terminal_in g) 0 (present (intermediate g)) in
      let long : length ps ≡ expression_count t = ap length (sym h.parts) ∙ up_to-long (part_in t) (expression_count t) in
      uses-same (part_in t) (λ i. get_or ps i (terminal 0)) (λ i. get_or alts i empty) (λ i. get_or (analysis g).alts i empty) s (expression_count t)
      (λ i k. sym (ap (λ (qs : List Part). get_or qs i (terminal 0)) (sym h.parts) ∙ up_to-at (part_in t) (expression_count t) i (terminal 0) k)) same
      ∙ ap (uses_alt (λ i. get_or ps i (terminal 0)) (λ i. get_or (analysis g).alts i empty) s) (sym long)
  by-root s (suc k) l e =
      same k (omega (arith, e, (tame t g h proper).roots s l))
      ∙ sym (alt-by-uses g proper (sym (rights-long t (middle g) h) ∙ names-are t (middle g) h) s k (sym (roots-is t g h proper s l) ∙ e))

  -- what is read of a table and its ALT is ALT of the symbol
  pub lake-alt-is : (s : ℕ) → s < length g.names → alt_in t alts s ≡ lake_alt (analysis g) s
  lake-alt-is s l = by-root s (root_in t s) l refl
