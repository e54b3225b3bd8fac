-- Edges that are stored one behind the other, and gifts that are given one after the other. Assumes nothing.
use Prim.Native.Nat.{ℕ, zero, suc, ◌+◌, ◌-◌, ◌≤◌, ◌<◌}
use Rattle.std.specs.Prelude.{◌≡◌, Bool, List, [], ◌∷◌, ◌++◌, length, get_or, set, take, replicate, ltb}
use Rattle.std.proofs.Math.Path.{refl}
use Rattle.std.proofs.Common.{sym, ap, ap₂, ◌∙◌, subst, ⊎_elim, append_assoc, append-nil, arith, add-one, length-append, length-set, get_or-set_same, get_or-set_other, get_or-take, length-take-le, pow_pos, lt-ltb, le-ltb, ltb-true}
use Rattle.std.proofs.Math.Bool.{true, false}
use Rattle.std.proofs.lemmas.List.{length-replicate, get_or-replicate}
use Rattle.std.proofs.Math.Seq.{set_out}
use Rattle.base_facts.specs.laws.Numbers.{lt-or-ge, same?}
use Rattle.base_words.specs.Set.{union_of, empty}
use Rattle.base_rounds.specs.Flow.{Edge, flow}
use Rattle.base_rounds.specs.Rounds.{First, iter}
use Rattle.base_rounds.specs.laws.Pair.{Set2}
use Rattle.base_rounds.specs.laws.Flow.{Inside}
use Rattle.base_rounds.specs.laws.Sys.{edges, Shaped, Solved, round_of, empties}
use Rattle.grammar.specs.Parts.{Part, terminal, occurs, sequence, choice, option, repeat, repeat1, affirms, denies}
use Rattle.grammar_table.specs.Table.{up_to, part_in, part_by}
use Rattle.lake_rules.specs.Beginning.{Beginning}
use Rattle.lake_rules.specs.Flows.{edge, edge_into, Gift, gift, when, over_parts, given, round_by, succeed_gifts, alt_gifts}
use Rattle.lake_rules.proofs.laws.Over.{over-next, inside-append}
use Rattle.lake_sets.specs.steps.Steps.{pair_at, root_in, kept_by, kept, edges_by, handed, Grown, Gave, Fine, RoundsAsk}
use Rattle.lake_rules.specs.laws.Reached.{Flowed}
use Rattle.grammar_table.specs.laws.Places.{get_d_any, up_to-long}

-- ---- the edges
kept_by-append : (b : Bool) (e : Edge) (l k : List Edge) → kept_by b e (l ++ k) ≡ kept_by b e l ++ k
kept_by-append true e l k = refl
kept_by-append false e l k = refl

kept_append : (n : ℕ) (xs ys : List Edge) → kept n (xs ++ ys) ≡ kept n xs ++ kept n ys
unfolding kept
kept_append n [] ys = refl
kept_append n (x ∷ xs) ys = ap (kept_by (ltb x.to n) x) (kept_append n xs ys) ∙ kept_by-append (ltb x.to n) x (kept n xs) (kept n ys)

kept_by-long : (b : Bool) (e : Edge) (l : List Edge) (k : ℕ) → length l ≤ k → length (kept_by b e l) ≤ suc k
kept_by-long true e l k h = omega arith
kept_by-long false e l k h = omega arith

pub kept-long : (n : ℕ) (es : List Edge) → length (kept n es) ≤ length es
unfolding kept
kept-long n [] = omega arith
kept-long n (e ∷ es) = kept_by-long (ltb e.to n) e (kept n es) (length es) (kept-long n es)

edges-keep : (src dst : List ℕ) (m f t k : ℕ) → k ≤ m → edges (set src m f) (set dst m t) k ≡ edges src dst k
edges-keep src dst m f t zero h = refl
edges-keep src dst m f t (suc k) h =
    ap₂ (λ (l : List Edge) (e : Edge). l ++ (e ∷ [])) (edges-keep src dst m f t k (omega arith))
    (ap₂ edge (get_or-set_other src m k f 0 (λ e. let z : ⊥ = omega arith in z)) (get_or-set_other dst m k t 0 (λ e. let z : ⊥ = omega arith in z)))

-- one more is stored
pub grown-one : (src dst : List ℕ) (m f t n : ℕ) → m < length src → m < length dst → t < n → Grown src dst m (kept n (edge f t ∷ [])) (set src m f) (set dst m t) (m + 1)
unfolding kept
grown-one src dst m f t n p q h =
    rw (lt-ltb t n h) record {
      all = rw add-one (ap₂ (λ (l : List Edge) (e : Edge). l ++ (e ∷ [])) (edges-keep src dst m f t m (omega arith)) (ap₂ edge (get_or-set_same src m f 0 p) (get_or-set_same dst m t 0 q)));
      most = omega arith;
    }

pub grown-none : (src dst : List ℕ) (m f t n : ℕ) → n ≤ t → Grown src dst m (kept n (edge f t ∷ [])) src dst m
unfolding kept
grown-none src dst m f t n h = rw (le-ltb t n h) record { all = sym (append-nil (edges src dst m)); most = omega arith }

pub grown-nothing : (src dst : List ℕ) (m n : ℕ) → Grown src dst m (kept n []) src dst m
unfolding kept
grown-nothing src dst m n = record { all = sym (append-nil (edges src dst m)); most = omega arith }

pub grown-two : (src dst s d s' d' : List ℕ) (m k j n : ℕ) (xs ys : List Edge) → Grown src dst m (kept n xs) s d k → Grown s d k (kept n ys) s' d' j → Grown src dst m (kept n (xs ++ ys)) s' d' j
grown-two src dst s d s' d' m k j n xs ys p q =
    rw (kept_append n xs ys) record {
      all = q.all ∙ ap (λ (l : List Edge). l ++ kept n ys) p.all ∙ append_assoc (edges src dst m) (kept n xs) (kept n ys);
      most = rw (length-append (kept n xs) (kept n ys)) (omega (arith, p.most, q.most));
    }

-- what is kept stays among the n
kept_by-inside : (n : ℕ) (e : Edge) (l : List Edge) (b : Bool) → ltb e.to n ≡ b → e.from < n → Inside n l → Inside n (kept_by b e l)
kept_by-inside n e l true h p i = (p, ltb-true e.to n h, i)
kept_by-inside n e l false h p i = i

abbrev pub From : ℕ → List Edge → Type 0
From n [] = Unit {0}
From n (e ∷ es) = (e.from < n) × From n es

pub kept-inside : (n : ℕ) (es : List Edge) → From n es → Inside n (kept n es)
unfolding kept
kept-inside n [] h = tt
kept-inside n (e ∷ es) h = kept_by-inside n e (kept n es) (ltb e.to n) refl h.0 (kept-inside n es h.1)

pub inside-over : (n : ℕ) (f : ℕ → Part → List Edge) (ps : List Part) (i : ℕ) → i + length ps ≤ n → ((j : ℕ) (p : Part) → j < n → Inside n (f j p)) → Inside n (over_parts f i ps)
unfolding over_parts
inside-over n f [] i h g = tt
inside-over n f (p ∷ ps) i h g = inside-append n (f i p) (over_parts f (suc i) ps) (g i p (omega arith)) (inside-over n f ps (suc i) (omega arith) g)

inside-left : (n : ℕ) (xs ys : List Edge) → Inside n (xs ++ ys) → Inside n xs × Inside n ys
inside-left n [] ys h = (tt, h)
inside-left n (x ∷ xs) ys h = let r = inside-left n xs ys h.2 in ((h.0, h.1, r.0), r.1)

-- edges inside are ends inside
ends : (src dst : List ℕ) (n m : ℕ) → Inside n (edges src dst m) → (e : ℕ) → e < m → (get_or src e 0 < n) × (get_or dst e 0 < n)
ends src dst n zero h e p = let z : ⊥ = omega arith in absurd z
ends src dst n (suc m) h e p =
    let r = inside-left n (edges src dst m) (edge (get_or src m 0) (get_or dst m 0) ∷ []) h in
    ⊎_elim (λ l. ends src dst n m r.0 e l) (λ l. let q : m ≡ e = omega arith in subst (λ (j : ℕ). (get_or src j 0 < n) × (get_or dst j 0 < n)) q (r.1.0, r.1.1)) (lt-or-ge e m)

edges-take : (src dst : List ℕ) (m k : ℕ) → k ≤ m → edges (take m src) (take m dst) k ≡ edges src dst k
edges-take src dst m zero h = refl
edges-take src dst m (suc k) h =
    ap₂ (λ (l : List Edge) (e : Edge). l ++ (e ∷ [])) (edges-take src dst m k (omega arith))
    (ap₂ edge (get_or-take m src k 0 (omega arith)) (get_or-take m dst k 0 (omega arith)))

-- what the solver asks
module _ (src dst : List ℕ) (m : ℕ) (base : List (List ℕ)) (cur next : ℕ) (h : RoundsAsk src dst m base cur next) where
  long-src : length (take m src) ≡ m
  long-src = length-take-le m src h.src-long

  pub shaped : Shaped (take m src) (take m dst) (length base)
  shaped = record {
    both = long-src ∙ sym (length-take-le m dst h.dst-long);
    from_in = λ e p. let l : e < m = omega (arith, long-src) in rw (get_or-take m src e 0 l) (ends src dst (length base) m h.inside e l).0;
    to_in = λ e p. let l : e < m = omega (arith, long-src) in rw (get_or-take m dst e 0 l) (ends src dst (length base) m h.inside e l).1;
  }

-- what it answers, along the edges that are meant
pub flowed : (src dst : List ℕ) (m n : ℕ) (base : List (List ℕ)) (k : ℕ) (s u : List (List ℕ)) (gifts : List Gift) (es : List Edge) → m ≤ length src
    → edges src dst m ≡ es → base ≡ given gifts (empties n) → length base ≡ n → Solved (take m src) (take m dst) base k s u → Flowed n gifts es k s
flowed src dst m n base k s u gifts es l p q w h =
    let long : length (take m src) ≡ m = length-take-le m src l in
    let e : edges (take m src) (take m dst) (length (take m src)) ≡ es = ap (edges (take m src) (take m dst)) long ∙ edges-take src dst m m (omega arith) ∙ p in
    let F : round_of (take m src) (take m dst) base ≡ round_by n gifts es = ap₂ {C = List (List ℕ) → List (List ℕ)}
    (λ (x : List Edge) (b : List (List ℕ)). λ (old : List (List ℕ)). flow union_of [] x old b) e q in
    let f : First (round_by n gifts es) (replicate n empty) k
    = subst (λ (j : ℕ). First (round_by n gifts es) (replicate j empty) k) w (subst (λ (G : List (List ℕ) → List (List ℕ)). First G (empties (length base)) k) F h.first) in
    record {
      first = f;
      is = h.is ∙ ap₂ (λ (G : List (List ℕ) → List (List ℕ)) (j : ℕ). iter G (replicate j empty) k) F w;
    }

-- ---- the gifts
pub given-append : (xs ys : List Gift) (acc : List (List ℕ)) → given (xs ++ ys) acc ≡ given ys (given xs acc)
unfolding given
given-append [] ys acc = refl
given-append (x ∷ xs) ys acc = given-append xs ys (set acc x.to (union_of (get_or acc x.to empty) x.set))

pub given-none : (acc : List (List ℕ)) → given [] acc ≡ acc
unfolding given
given-none acc = refl

pub given-long : (gs : List Gift) (acc : List (List ℕ)) → length (given gs acc) ≡ length acc
unfolding given
given-long [] acc = refl
given-long (x ∷ gs) acc = given-long gs (set acc x.to (union_of (get_or acc x.to empty) x.set)) ∙ length-set acc x.to (union_of (get_or acc x.to empty) x.set)

pub gave_one : (base : List (List ℕ)) (i : ℕ) (s v : List ℕ) → i < length base → Set2 64 64 v → v ≡ union_of (get_or base i []) s → Gave (gift i s ∷ []) base (set base i v)
unfolding given
gave_one base i s v h g e = record {
  is = ap (set base i) (e ∙ ap (λ (x : List ℕ). union_of x s) (get_d_any base i [] empty h));
  fine = λ b. record {
    long = refl;
    each = λ j p. ⊎_elim
        (λ q. subst (λ (k : ℕ). Set2 64 64 (get_or (set base i v) k [])) (sym q) (rw (get_or-set_same base i v [] h) g))
        (λ q. rw (get_or-set_other base i j v [] q) (b.each j (let l : length (set base i v) ≡ length base = length-set base i v in omega arith))) (same? j i);
  };
}

pub gave-out : (base : List (List ℕ)) (i : ℕ) (s : List ℕ) → length base ≤ i → Gave (gift i s ∷ []) base base
unfolding given
gave-out base i s h = record { is = sym (set_out base i (union_of (get_or base i empty) s) h); fine = λ b. b }

pub gave-nothing : (base : List (List ℕ)) → Gave [] base base
unfolding given
gave-nothing base = record { is = refl; fine = λ b. b }

pub gave-two : (xs ys : List Gift) (a b c : List (List ℕ)) → Gave xs a b → Gave ys b c → Gave (xs ++ ys) a c
gave-two xs ys a b c p q = record { is = q.is ∙ ap (given ys) p.is ∙ sym (given-append xs ys a); fine = λ f. q.fine (p.fine f) }

pub none-fine : (n : ℕ) (s : List (List ℕ)) → s ≡ empties n → Fine s
none-fine n s e = rw e record {
  long = refl;
  each = λ i p. rw (get_or-replicate n i empty [] (let l : length (empties n) ≡ n = length-replicate n empty in omega arith)) record
      { two = refl; first = pow_pos 64; second = pow_pos 64 };
}

when-two : (b : Bool) (x y : Edge) → length (y ∷ when b x) ≤ 2
when-two true x y = omega arith
when-two false x y = omega arith

when-from : (n : ℕ) (b : Bool) (x : Edge) → x.from < n → From n (when b x)
when-from n true x h = (h, tt)
when-from n false x h = tt

into-two : (i k : ℕ) → length (edge_into i k) ≤ 2
into-two i zero = omega arith
into-two i (suc e) = omega arith

into-from : (n i k : ℕ) → i < n → From n (edge_into i k)
into-from n i zero h = tt
into-from n i (suc e) h = (h, tt)

-- into a symbol's body
pub grown-into : (src dst s d : List ℕ) (m k n i w b : ℕ) → (w ≡ 0 → ⊥) → w ≡ b → Grown src dst m (kept n (edge i (w - 1) ∷ [])) s d k → Grown src dst m (kept n (edge_into i b)) s d k
grown-into src dst s d m k n i zero b h e g = absurd (h refl)
grown-into src dst s d m k n i (suc w) b h e g = subst (λ (x : ℕ). Grown src dst m (kept n (edge_into i x)) s d k) e
    (subst (λ (x : ℕ). Grown src dst m (kept n (edge i x ∷ [])) s d k) (let q : suc w - 1 ≡ w = omega arith in q) g)

pub grown-bare : (src dst : List ℕ) (m n i w b : ℕ) → w ≡ 0 → w ≡ b → Grown src dst m (kept n (edge_into i b)) src dst m
grown-bare src dst m n i w b z e = subst (λ (x : ℕ). Grown src dst m (kept n (edge_into i x)) src dst m) (sym z ∙ e) (grown-nothing src dst m n)

-- ---- by the kind of an expression
module _ (bs : ℕ → Beginning) (root : ℕ → ℕ) (i : ℕ) where
  pub by-terminal : (back : Bool) (k l r : ℕ) → k ≡ 0 → [] ≡ edges_by back bs root i (part_by k l r)
  unfolding part_by
  by-terminal true k l r e = rw e
  by-terminal false k l r e = rw e

  pub by-occurs : (back : Bool) (k l r : ℕ) → k ≡ 1 → edge_into i (root l) ≡ edges_by back bs root i (part_by k l r)
  unfolding part_by
  by-occurs true k l r e = rw e
  by-occurs false k l r e = rw e

  pub by-back : (back : Bool) (k l r : ℕ) → k ≡ 2 → back ≡ true → edge i r ∷ when (bs r).eps (edge i l) ≡ edges_by back bs root i (part_by k l r)
  unfolding part_by
  by-back back k l r e f = rw (e, f)

  pub by-forth : (back : Bool) (k l r : ℕ) → k ≡ 2 → back ≡ false → edge i l ∷ when (bs l).eps (edge i r) ≡ edges_by back bs root i (part_by k l r)
  unfolding part_by
  by-forth back k l r e f = rw (e, f)

  pub by-choice : (back : Bool) (k l r : ℕ) → k ≡ 3 → edge i l ∷ edge i r ∷ [] ≡ edges_by back bs root i (part_by k l r)
  unfolding part_by
  by-choice true k l r e = rw e
  by-choice false k l r e = rw e

  pub by-option : (back : Bool) (k l r : ℕ) → k ≡ 4 → edge i l ∷ [] ≡ edges_by back bs root i (part_by k l r)
  unfolding part_by
  by-option true k l r e = rw e
  by-option false k l r e = rw e

  pub by-repeat : (back : Bool) (k l r : ℕ) → k ≡ 5 → edge i l ∷ [] ≡ edges_by back bs root i (part_by k l r)
  unfolding part_by
  by-repeat true k l r e = rw e
  by-repeat false k l r e = rw e

  pub by-repeat1 : (back : Bool) (k l r : ℕ) → k ≡ 6 → edge i l ∷ [] ≡ edges_by back bs root i (part_by k l r)
  unfolding part_by
  by-repeat1 true k l r e = rw e
  by-repeat1 false k l r e = rw e

  over-six : (back : Bool) (k l r : ℕ) → [] ≡ edges_by back bs root i (part_by (suc (suc (suc (suc (suc (suc (suc k))))))) l r)
  unfolding part_by
  over-six true zero l r = refl
  over-six true (suc k) l r = refl
  over-six false zero l r = refl
  over-six false (suc k) l r = refl

  pub by-rest : (back : Bool) (k l r : ℕ) → (k ≡ 0 → ⊥) → (k ≡ 1 → ⊥) → (k ≡ 2 → ⊥) → (k ≡ 3 → ⊥) → (k ≡ 4 → ⊥) → (k ≡ 5 → ⊥) → (k ≡ 6 → ⊥) → [] ≡ edges_by back bs root i (part_by k l r)
  by-rest back zero l r p0 p1 p2 p3 p4 p5 p6 = absurd (p0 refl)
  by-rest back (suc zero) l r p0 p1 p2 p3 p4 p5 p6 = absurd (p1 refl)
  by-rest back (suc (suc zero)) l r p0 p1 p2 p3 p4 p5 p6 = absurd (p2 refl)
  by-rest back (suc (suc (suc zero))) l r p0 p1 p2 p3 p4 p5 p6 = absurd (p3 refl)
  by-rest back (suc (suc (suc (suc zero)))) l r p0 p1 p2 p3 p4 p5 p6 = absurd (p4 refl)
  by-rest back (suc (suc (suc (suc (suc zero))))) l r p0 p1 p2 p3 p4 p5 p6 = absurd (p5 refl)
  by-rest back (suc (suc (suc (suc (suc (suc zero)))))) l r p0 p1 p2 p3 p4 p5 p6 = absurd (p6 refl)
  by-rest back (suc (suc (suc (suc (suc (suc (suc k))))))) l r p0 p1 p2 p3 p4 p5 p6 = over-six back k l r

  -- an expression hands on at most two edges, from itself
  pub edges-two : (back : Bool) (p : Part) → length (edges_by back bs root i p) ≤ 2
  edges-two true (terminal t) = omega arith
  edges-two true (occurs r) = into-two i (root r)
  edges-two true (sequence a b) = when-two (bs b).eps (edge i a) (edge i b)
  edges-two true (choice a b) = omega arith
  edges-two true (option a) = omega arith
  edges-two true (repeat a) = omega arith
  edges-two true (repeat1 a) = omega arith
  edges-two true (affirms a) = omega arith
  edges-two true (denies a) = omega arith
  edges-two false (terminal t) = omega arith
  edges-two false (occurs r) = into-two i (root r)
  edges-two false (sequence a b) = when-two (bs a).eps (edge i b) (edge i a)
  edges-two false (choice a b) = omega arith
  edges-two false (option a) = omega arith
  edges-two false (repeat a) = omega arith
  edges-two false (repeat1 a) = omega arith
  edges-two false (affirms a) = omega arith
  edges-two false (denies a) = omega arith

  pub edges-from : (n : ℕ) → i < n → (back : Bool) (p : Part) → From n (edges_by back bs root i p)
  edges-from n h true (terminal t) = tt
  edges-from n h true (occurs r) = into-from n i (root r) h
  edges-from n h true (sequence a b) = (h, when-from n (bs b).eps (edge i a) h)
  edges-from n h true (choice a b) = (h, (h, tt))
  edges-from n h true (option a) = (h, tt)
  edges-from n h true (repeat a) = (h, tt)
  edges-from n h true (repeat1 a) = (h, tt)
  edges-from n h true (affirms a) = tt
  edges-from n h true (denies a) = tt
  edges-from n h false (terminal t) = tt
  edges-from n h false (occurs r) = into-from n i (root r) h
  edges-from n h false (sequence a b) = (h, when-from n (bs a).eps (edge i b) h)
  edges-from n h false (choice a b) = (h, (h, tt))
  edges-from n h false (option a) = (h, tt)
  edges-from n h false (repeat a) = (h, tt)
  edges-from n h false (repeat1 a) = (h, tt)
  edges-from n h false (affirms a) = tt
  edges-from n h false (denies a) = tt

pub grown-as : (src dst s d : List ℕ) (m k n : ℕ) (es fs gs : List Edge) → Grown src dst m (kept n es) s d k → es ≡ fs → fs ≡ gs → Grown src dst m (kept n gs) s d k
grown-as src dst s d m k n es fs gs g e f = subst (λ (l : List Edge). Grown src dst m (kept n l) s d k) (e ∙ f) g

pub gave-as : (a b : List (List ℕ)) (xs ys zs : List Gift) → Gave xs a b → xs ≡ ys → ys ≡ zs → Gave zs a b
gave-as a b xs ys zs g e f = subst (λ (l : List Gift). Gave l a b) (e ∙ f) g

-- all edges of a table of n expressions lie among them
pub handed-inside : (t : List ℕ) (eps : List Bool) (back : Bool) (n : ℕ) → Inside n (handed t eps back n n)
handed-inside t eps back n =
    inside-over n (λ i p. kept n (edges_by back (pair_at [] eps) (root_in t) i p)) (up_to (part_in t) n) 0 (let e : length (up_to (part_in t) n) ≡ n = up_to-long (part_in t) n in omega arith)
    (λ j p h. kept-inside n (edges_by back (pair_at [] eps) (root_in t) j p) (edges-from (pair_at [] eps) (root_in t) j n h back p))

pub handed-next : (t : List ℕ) (eps : List Bool) (back : Bool) (n e : ℕ) → handed t eps back n (e + 1) ≡ handed t eps back n e ++ kept n (edges_by back (pair_at [] eps) (root_in t) e (part_in t e))
handed-next t eps back n e = over-next (λ i p. kept n (edges_by back (pair_at [] eps) (root_in t) i p)) (part_in t) e

-- gifts by the kind
pub succeed-rest : (bs : ℕ → Beginning) (root : ℕ → ℕ) (i k l r : ℕ) → (k ≡ 2 → ⊥) → (k ≡ 5 → ⊥) → (k ≡ 6 → ⊥) → [] ≡ succeed_gifts bs root i (part_by k l r)
unfolding part_by
succeed-rest bs root i zero l r a b c = refl
succeed-rest bs root i (suc zero) l r a b c = refl
succeed-rest bs root i (suc (suc zero)) l r a b c = absurd (a refl)
succeed-rest bs root i (suc (suc (suc zero))) l r a b c = refl
succeed-rest bs root i (suc (suc (suc (suc zero)))) l r a b c = refl
succeed-rest bs root i (suc (suc (suc (suc (suc zero))))) l r a b c = absurd (b refl)
succeed-rest bs root i (suc (suc (suc (suc (suc (suc zero)))))) l r a b c = absurd (c refl)
succeed-rest bs root i (suc (suc (suc (suc (suc (suc (suc zero))))))) l r a b c = refl
succeed-rest bs root i (suc (suc (suc (suc (suc (suc (suc (suc k)))))))) l r a b c = refl

pub alt-rest : (bs : ℕ → Beginning) (root : ℕ → ℕ) (succ : ℕ → List ℕ) (i k l r : ℕ) → (k ≡ 3 → ⊥) → (k ≡ 4 → ⊥) → (k ≡ 5 → ⊥) → (k ≡ 6 → ⊥) → [] ≡ alt_gifts bs root succ i (part_by k l r)
unfolding part_by
alt-rest bs root succ i zero l r a b c d = refl
alt-rest bs root succ i (suc zero) l r a b c d = refl
alt-rest bs root succ i (suc (suc zero)) l r a b c d = refl
alt-rest bs root succ i (suc (suc (suc zero))) l r a b c d = absurd (a refl)
alt-rest bs root succ i (suc (suc (suc (suc zero)))) l r a b c d = absurd (b refl)
alt-rest bs root succ i (suc (suc (suc (suc (suc zero))))) l r a b c d = absurd (c refl)
alt-rest bs root succ i (suc (suc (suc (suc (suc (suc zero)))))) l r a b c d = absurd (d refl)
alt-rest bs root succ i (suc (suc (suc (suc (suc (suc (suc zero))))))) l r a b c d = refl
alt-rest bs root succ i (suc (suc (suc (suc (suc (suc (suc (suc k)))))))) l r a b c d = refl

module _ (bs : ℕ → Beginning) (root : ℕ → ℕ) (i k l r : ℕ) where
  pub gives-sequence : k ≡ 2 → gift l (bs r).set ∷ [] ≡ succeed_gifts bs root i (part_by k l r)
  unfolding part_by
  gives-sequence e = rw e

  pub gives-repeat : k ≡ 5 → gift l (bs l).set ∷ [] ≡ succeed_gifts bs root i (part_by k l r)
  unfolding part_by
  gives-repeat e = rw e

  pub gives-repeat1 : k ≡ 6 → gift l (bs l).set ∷ [] ≡ succeed_gifts bs root i (part_by k l r)
  unfolding part_by
  gives-repeat1 e = rw e

module _ (bs : ℕ → Beginning) (root : ℕ → ℕ) (succ : ℕ → List ℕ) (i k l r : ℕ) where
  pub alt-choice : k ≡ 3 → (bs r).eps ≡ true → gift l (bs r).set ∷ gift l (succ i) ∷ [] ≡ alt_gifts bs root succ i (part_by k l r)
  unfolding part_by
  alt-choice e f = rw (e, f)

  pub alt-choice-off : k ≡ 3 → (bs r).eps ≡ false → gift l (bs r).set ∷ [] ≡ alt_gifts bs root succ i (part_by k l r)
  unfolding part_by
  alt-choice-off e f = rw (e, f)

  pub alt-option : k ≡ 4 → gift l (succ i) ∷ [] ≡ alt_gifts bs root succ i (part_by k l r)
  unfolding part_by
  alt-option e = rw e

  pub alt-repeat : k ≡ 5 → gift l (succ i) ∷ [] ≡ alt_gifts bs root succ i (part_by k l r)
  unfolding part_by
  alt-repeat e = rw e

  pub alt-repeat1 : k ≡ 6 → gift l (succ i) ∷ [] ≡ alt_gifts bs root succ i (part_by k l r)
  unfolding part_by
  alt-repeat1 e = rw e
