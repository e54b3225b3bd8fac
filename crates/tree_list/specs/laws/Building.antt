-- The tree of a good list, built from the list's end: each node takes those in front of it that are one deeper as its children. Assumes nothing.
use Rattle.std.specs.Prelude.{ℕ, zero, suc, ◌≤◌, ◌<◌, ◌≡◌, refl, Bool, true, false, cond, List, [], ◌∷◌, ◌++◌, eqb, length, take}
use Rattle.std.proofs.Common.{ap, ◌∙◌, sym as flip, ⊎_elim, append_assoc, arith, length-append, length-take-le, take_at, leb-true, eqb-true}
use Rattle.std.proofs.Math.Path.{subst}
use Rattle.std.proofs.Math.Option.{none as nothing}
use Rattle.std.proofs.Math.ListN.{get_or-append}
use Rattle.std.proofs.lemmas.List.{take-append-le, get_or_at}
use Rattle.std.proofs.lemmas.Bool.{eqb-false}
use Rattle.base_facts.specs.laws.Numbers.{lt-or-ge}
use Rattle.read_tokens.specs.Bounds.{depth_bound}
use Rattle.match_meaning.specs.Meaning.{Node, nd}
use Rattle.tree_list.specs.Tree.{Trees, none, tree, preorder, Nests, WithinDepth, words_in, IsTree}
use Rattle.tree_list.specs.Preorder.{Gap, gap, gap_at, admits, gaps_behind, bad_from, whole}
use Rattle.tree_list.specs.laws.Gaps.{Stands, admits-parts}
use Rattle.tree_list.specs.laws.Bad.{goes_on}

-- a tree that waits for its parent
pub record Pending : Type 0 where
  pub root : Node
  pub children : Trees

-- those in front that have depth d, side by side; and the others
unfoldable pub children_of : ℕ → List Pending → Trees
children_of d [] = none
children_of d (y ∷ ys) = cond (eqb y.root.depth d) (tree y.root.symbol y.root.start y.root.end y.children (children_of d ys)) none

unfoldable pub others_of : ℕ → List Pending → List Pending
others_of d [] = []
others_of d (y ∷ ys) = cond (eqb y.root.depth d) (others_of d ys) (y ∷ ys)

unfoldable pub built : List Node → List Pending
built [] = []
built (x ∷ xs) = record { root = x; children = children_of (suc x.depth) (built xs) } ∷ others_of (suc x.depth) (built xs)

-- ── nothing is lost: the nodes of what is built are the list ──
unfoldable pub listed : List Pending → List Node
listed [] = []
listed (y ∷ ys) = y.root ∷ (preorder (suc y.root.depth) y.children ++ listed ys)

children-by : (d : ℕ) (y : Pending) (ys : List Pending) (b : Bool) → eqb y.root.depth d ≡ b → preorder d (children_of d ys) ++ listed (others_of d ys) ≡ listed ys
    → preorder d (cond b (tree y.root.symbol y.root.start y.root.end y.children (children_of d ys)) none) ++ listed (cond b (others_of d ys) (y ∷ ys)) ≡ listed (y ∷ ys)
unfolding preorder listed
children-by d y ys true h e =
    ap (λ (l : List Node). nd y.root.symbol y.root.start y.root.end d ∷ l)
    (append_assoc (preorder (suc d) y.children) (preorder d (children_of d ys)) (listed (others_of d ys)) ∙ ap (λ (l : List Node). preorder (suc d) y.children ++ l) e)
    ∙ ap (λ (i : ℕ). nd y.root.symbol y.root.start y.root.end i ∷ (preorder (suc i) y.children ++ listed ys)) (flip (eqb-true y.root.depth d h))
children-by d y ys false h e = refl

children-listed : (d : ℕ) (ys : List Pending) → preorder d (children_of d ys) ++ listed (others_of d ys) ≡ listed ys
unfolding preorder listed children_of others_of
children-listed d [] = refl
children-listed d (y ∷ ys) = children-by d y ys (eqb y.root.depth d) refl (children-listed d ys)

built-listed : (xs : List Node) → listed (built xs) ≡ xs
unfolding listed built
built-listed [] = refl
built-listed (x ∷ xs) = ap (λ (l : List Node). x ∷ l) (children-listed (suc x.depth) (built xs) ∙ built-listed xs)

-- ── what is built from a good list stands in the gaps, one tree after the other ──
-- the gaps behind a tree
abbrev passed : List Gap → Node → List Gap
passed gs x = take x.depth gs ++ (gap x.end (gap_at gs x.depth).to ∷ [])

passed-long : (gs : List Gap) (x : Node) → x.depth < length gs → length (passed gs x) ≡ suc x.depth
passed-long gs x h = length-append (take x.depth gs) _ ∙ omega (arith, length-take-le x.depth gs (omega (arith, h)))

pub record Placed (R : ℕ) (gs : List Gap) (y : Pending) : Type 0 where
  pub possible : y.root.depth < length gs
  pub high : y.root.depth ≤ depth_bound
  pub known : y.root.symbol < R
  pub forward : y.root.start ≤ y.root.end
  pub behind : (gap_at gs y.root.depth).from ≤ y.root.start
  pub inside : y.root.end ≤ (gap_at gs y.root.depth).to
  pub fits : Nests R y.root.start y.root.end y.children
  pub shallow : WithinDepth (suc y.root.depth) y.children

unfoldable AllPlaced : ℕ → List Gap → List Pending → Type 0
AllPlaced R gs [] = Unit {0}
AllPlaced R gs (y ∷ ys) = Placed R gs y × AllPlaced R (passed gs y.root) ys

module _ (R : ℕ) (gs : List Gap) (d a b : ℕ) (long : length gs ≡ d) where
  -- in the last gap
  module _ (y : Pending) (e : y.root.depth ≡ d) (p : Placed R (gs ++ (gap a b ∷ [])) y) where
    own-gap : gap_at (gs ++ (gap a b ∷ [])) y.root.depth ≡ gap a b
    own-gap = get_or_at gs (gap a b) [] (gap 0 0) y.root.depth (long ∙ flip e)

    own-passed : passed (gs ++ (gap a b ∷ [])) y.root ≡ gs ++ (gap y.root.end b ∷ [])
    own-passed = rw (take_at gs (gap a b ∷ []) y.root.depth (long ∙ flip e), own-gap)

    own-fits : (ts : Trees) → Nests R y.root.end b ts → Nests R a b (tree y.root.symbol y.root.start y.root.end y.children ts)
    unfolding Nests
    own-fits ts f =
        (p.known, subst (λ (g : Gap). g.from ≤ y.root.start) own-gap p.behind, p.forward, subst (λ (g : Gap). y.root.end ≤ g.to) own-gap p.inside, p.fits, f)

    own-shallow : (ts : Trees) → WithinDepth d ts → WithinDepth d (tree y.root.symbol y.root.start y.root.end y.children ts)
    unfolding WithinDepth
    own-shallow ts f = (subst (λ (i : ℕ). i ≤ depth_bound) e p.high, subst (λ (i : ℕ). WithinDepth (suc i) y.children) e p.shallow, f)

  -- in one before it
  module _ (y : Pending) (f : y.root.depth ≡ d → ⊥) (p : Placed R (gs ++ (gap a b ∷ [])) y) where
    other-possible : y.root.depth < length gs
    other-possible =
        ⊎_elim (λ l. l) (λ g. absurd (f (omega (arith, g, p.possible, length-append gs (gap a b ∷ []), long)))) (lt-or-ge y.root.depth (length gs))

    other-gap : gap_at (gs ++ (gap a b ∷ [])) y.root.depth ≡ gap_at gs y.root.depth
    other-gap = get_or-append gs (gap a b ∷ []) (gap 0 0) y.root.depth other-possible

    other-passed : passed (gs ++ (gap a b ∷ [])) y.root ≡ passed gs y.root
    other-passed = rw (take-append-le y.root.depth gs (gap a b ∷ []) (omega (arith, other-possible)), other-gap)

    other-placed : Placed R gs y
    other-placed =
        record {
          possible = other-possible;
          high = p.high;
          known = p.known;
          forward = p.forward;
          behind = subst (λ (g : Gap). g.from ≤ y.root.start) other-gap p.behind;
          inside = subst (λ (g : Gap). y.root.end ≤ g.to) other-gap p.inside;
          fits = p.fits;
          shallow = p.shallow;
        }

-- trees between a and b, and what is left
abbrev Parted : ℕ → List Gap → ℕ → ℕ → ℕ → Trees → List Pending → Type 0
Parted R gs d a b ts ys = Nests R a b ts × WithinDepth d ts × AllPlaced R gs ys

parted-by : (R : ℕ) (gs : List Gap) (d a b : ℕ) → length gs ≡ d → (y : Pending) (ys : List Pending) (t : Bool) → eqb y.root.depth d ≡ t → Placed R (gs ++ (gap a b ∷ [])) y
    → AllPlaced R (passed (gs ++ (gap a b ∷ [])) y.root) ys
    → (AllPlaced R (gs ++ (gap y.root.end b ∷ [])) ys → Parted R gs d y.root.end b (children_of d ys) (others_of d ys))
    → Parted R gs d a b (cond t (tree y.root.symbol y.root.start y.root.end y.children (children_of d ys)) none) (cond t (others_of d ys) (y ∷ ys))
unfolding Nests WithinDepth AllPlaced
parted-by R gs d a b long y ys true h p q f =
    let e : y.root.depth ≡ d = eqb-true y.root.depth d h in
    let r : Parted R gs d y.root.end b (children_of d ys) (others_of d ys) = f (subst (λ (l : List Gap). AllPlaced R l ys) (own-passed R gs d a b long y e p) q) in
    (own-fits R gs d a b long y e p (children_of d ys) r.0, own-shallow R gs d a b long y e p (children_of d ys) r.1, r.2)
parted-by R gs d a b long y ys false h p q f =
    let g : y.root.depth ≡ d → ⊥ = eqb-false y.root.depth d h in
    (tt, tt, (other-placed R gs d a b long y g p, subst (λ (l : List Gap). AllPlaced R l ys) (other-passed R gs d a b long y g p) q))

parted : (R : ℕ) (gs : List Gap) (d a b : ℕ) → length gs ≡ d → (ys : List Pending) → AllPlaced R (gs ++ (gap a b ∷ [])) ys → Parted R gs d a b (children_of d ys) (others_of d ys)
unfolding Nests WithinDepth AllPlaced children_of others_of
parted R gs d a b long [] p = (tt, tt, tt)
parted R gs d a b long (y ∷ ys) p =
    parted-by R gs d a b long y ys (eqb y.root.depth d) refl p.0 p.1 (λ q. parted R gs d y.root.end b long ys q)

placed : (R : ℕ) (gs : List Gap) (k : ℕ) (xs : List Node) → bad_from R gs k xs ≡ nothing → AllPlaced R gs (built xs)
unfolding AllPlaced built gaps_behind
placed R gs k [] e = tt
placed R gs k (x ∷ xs) e =
    let h : (admits R gs k x ≡ true) × (bad_from R (gaps_behind gs x) (suc k) xs ≡ nothing) = goes_on R gs k x xs e in
    let s : Stands R gs k x = admits-parts R gs k x h.0 in
    let q : AllPlaced R (passed gs x ++ (gap x.start x.end ∷ [])) (built xs) =
    subst (λ (l : List Gap). AllPlaced R l (built xs))
    (flip (append_assoc (take x.depth gs) (gap x.end (gap_at gs x.depth).to ∷ []) (gap x.start x.end ∷ []))) (placed R (gaps_behind gs x) (suc k) xs h.1)
    in
    let r : Parted R (passed gs x) (suc x.depth) x.start x.end (children_of (suc x.depth) (built xs)) (others_of (suc x.depth) (built xs)) =
    parted R (passed gs x) (suc x.depth) x.start x.end (passed-long gs x s.possible) (built xs) q
    in (
      record {
        possible = s.possible;
        high = s.high;
        known = s.known;
        forward = s.forward;
        behind = s.behind;
        inside = s.inside;
        fits = r.0;
        shallow = r.1;
      },
      r.2,
    )

-- ── there is one tree: no node but the first has depth 0 ──
unfoldable Lower : List Pending → Type 0
Lower [] = Unit {0}
Lower (y ∷ ys) = (1 ≤ y.root.depth) × Lower ys

others-lower-by : (d : ℕ) (y : Pending) (ys : List Pending) (t : Bool) → Lower (others_of d ys) → Lower (y ∷ ys) → Lower (cond t (others_of d ys) (y ∷ ys))
others-lower-by d y ys true l m = l
others-lower-by d y ys false l m = m

others-lower : (d : ℕ) (ys : List Pending) → Lower ys → Lower (others_of d ys)
unfolding Lower others_of
others-lower d [] l = tt
others-lower d (y ∷ ys) l = others-lower-by d y ys (eqb y.root.depth d) (others-lower d ys l.1) l

built-lower : (R : ℕ) (gs : List Gap) (k : ℕ) (xs : List Node) → bad_from R gs (suc k) xs ≡ nothing → Lower (built xs)
unfolding Lower built
built-lower R gs k [] e = tt
built-lower R gs k (x ∷ xs) e =
    let h : (admits R gs (suc k) x ≡ true) × (bad_from R (gaps_behind gs x) (suc (suc k)) xs ≡ nothing) = goes_on R gs (suc k) x xs e in (
      leb-true 1 x.depth (admits-parts R gs (suc k) x h.0).first,
      others-lower (suc x.depth) (built xs) (built-lower R (gaps_behind gs x) (suc k) xs h.1),
    )

no_other : (R : ℕ) (gs : List Gap) (ys : List Pending) → length gs ≤ 1 → AllPlaced R gs ys → Lower ys → ys ≡ []
unfolding AllPlaced Lower
no_other R gs [] h p l = refl
no_other R gs (y ∷ ys) h p l = absurd (omega (arith, h, p.0.possible, l.0))

root-tree : (R n r p q d : ℕ) (xs : List Node) (ws : List ℕ) → bad_from R (whole n) 0 (nd r p q d ∷ xs) ≡ nothing → ws ≡ words_in (nd r p q d ∷ xs) → IsTree R n ws
unfolding AllPlaced built listed preorder Nests WithinDepth
root-tree R n r p q zero xs ws e w =
    let h : (admits R (whole n) 0 (nd r p q 0) ≡ true) × (bad_from R (gaps_behind (whole n) (nd r p q 0)) 1 xs ≡ nothing) = goes_on R (whole n) 0 (nd r p q 0) xs e in
    let a : AllPlaced R (whole n) (built (nd r p q 0 ∷ xs)) = placed R (whole n) 0 (nd r p q 0 ∷ xs) e in
    let o : others_of 1 (built xs) ≡ [] = no_other R (gap q n ∷ []) (others_of 1 (built xs)) (omega arith) a.1
    (others-lower 1 (built xs) (built-lower R (gaps_behind (whole n) (nd r p q 0)) 0 xs h.1)) in
    let b : nd r p q 0 ∷ (preorder 1 (children_of 1 (built xs)) ++ []) ≡ nd r p q 0 ∷ xs =
    ap (λ (l : List Pending). nd r p q 0 ∷ (preorder 1 (children_of 1 (built xs)) ++ listed l)) (flip o) ∙ built-listed (nd r p q 0 ∷ xs)
    in
    record {
      symbol = r;
      start = p;
      end = q;
      children = children_of 1 (built xs);
      fits = (a.0.known, a.0.behind, a.0.forward, a.0.inside, a.0.fits, tt);
      shallow = (a.0.high, a.0.shallow, tt);
      words = w ∙ ap words_in (flip b);
    }
root-tree R n r p q (suc d) xs ws e w =
    absurd (omega (arith, eqb-true (suc d) 0 (admits-parts R (whole n) 0 (nd r p q (suc d)) (goes_on R (whole n) 0 (nd r p q (suc d)) xs e).0).first))

pub good-tree : (R n : ℕ) (xs : List Node) (ws : List ℕ) → 1 ≤ length xs → bad_from R (whole n) 0 xs ≡ nothing → ws ≡ words_in xs → IsTree R n ws
good-tree R n [] ws h e w = absurd (omega (arith, h))
good-tree R n (x ∷ xs) ws h e w = root-tree R n x.symbol x.start x.end x.depth xs ws e w
