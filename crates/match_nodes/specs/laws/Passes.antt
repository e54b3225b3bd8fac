-- Two passes give the answer and leave the words that `listing_of` and `words_of` say.
-- Assumes nothing.
use Rattle.std.specs.Prelude.{ℕ, suc, ◌+◌, ◌≤◌, ◌<◌, ◌≡◌, Bool, true, false, ltb, Result, Ok, Err}
use Rattle.std.proofs.Math.Path.{refl, ap, subst, sym as flip}
use Rattle.std.proofs.Common.{◌∙◌, add-one}
use mathlib.Core.List.{List, [], ◌∷◌, ◌++◌}
use borrow.Author.Tests.{lt-ltb, le-ltb, ltb-true, ltb-false}
use Rattle.read_tokens.specs.Bounds.{depth_bound}
use Rattle.match_meaning.specs.Meaning.{Node}
use Rattle.match_list.specs.Nodes.{Listing, all, deep, full, listing_of, put_node, written, words_of}
use Rattle.match_nodes.specs.declared.Offence.{Offence}
use Rattle.match_nodes.specs.declared.Offence.TheVariants.{Deep, Full}
use Rattle.match_nodes.specs.steps.Passes.{Out, out, put_if, next_of, note, run, answer_of, said}
use Rattle.match_list.proofs.laws.Cut.{listing-deep, listing_full, listing-next, IsAll, high}
use Rattle.match_list.proofs.laws.Words.{if-all, words-refused}

-- ── one node ──
module _ (room : ℕ) (w : Bool) (ws : List ℕ) (k : ℕ) (n : Node) where
  pub note-deep : depth_bound < n.depth → out ws (Err (Deep k)) ≡ note room w (out ws (Ok k)) n
  unfolding note next_of
  note-deep g = rw (lt-ltb depth_bound n.depth g)

  pub note-full : n.depth ≤ depth_bound → room ≤ k → out ws (Err (Full k)) ≡ note room w (out ws (Ok k)) n
  unfolding note next_of
  note-full g h = rw (le-ltb depth_bound n.depth g, le-ltb k room h)

  pub note-one : n.depth ≤ depth_bound → k < room → out (put_if w ws k n) (Ok (k + 1)) ≡ note room w (out ws (Ok k)) n
  unfolding note next_of
  note-one g h = rw (le-ltb depth_bound n.depth g, lt-ltb k room h)

module _ (room : ℕ) (ws : List ℕ) (k : ℕ) (n : Node) where
  pub note-looks : n.depth ≤ depth_bound → k < room → out ws (Ok (k + 1)) ≡ note room false (out ws (Ok k)) n
  unfolding put_if
  note-looks g h = note-one room false ws k n g h

  pub note-writes : n.depth ≤ depth_bound → k < room → out (put_node ws k n) (Ok (k + 1)) ≡ note room true (out ws (Ok k)) n
  unfolding put_if
  note-writes g h = note-one room true ws k n g h

-- a node that is noted is not too deep
abbrev Fine : Result ℕ Offence → Type 0
Fine (Ok k) = Unit
Fine (Err e) = ⊥

ok-err : {A : Type 0} (x : Result ℕ Offence) (k : ℕ) (e : Offence) → x ≡ Ok k → x ≡ Err e → A
ok-err x k e h g = absurd (subst Fine g (subst Fine (flip h) tt))

pub noted-high : (room : ℕ) (w : Bool) (ws words : List ℕ) (k i : ℕ) (n : Node) → out words (Ok i) ≡ note room w (out ws (Ok k)) n → n.depth ≤ depth_bound
noted-high room w ws words k i n h = go (ltb depth_bound n.depth) refl
  where
    go : (b : Bool) → ltb depth_bound n.depth ≡ b → n.depth ≤ depth_bound
    go true e = ok-err (note room w (out ws (Ok k)) n).at i (Deep k) (flip (ap (λ (o : Out). o.at) h)) (flip (ap (λ (o : Out). o.at) (note-deep room w ws k n (ltb-true depth_bound n.depth e))))
    go false e = ltb-false depth_bound n.depth e

-- ── a list ──
-- a pass that has a refusal stays as it is
pub run-stopped : (room : ℕ) (w : Bool) (ws : List ℕ) (e : Offence) (l : List Node) → out ws (Err e) ≡ run room w (out ws (Err e)) l
unfolding run note
run-stopped room w ws e [] = refl
run-stopped room w ws e (n ∷ l) = run-stopped room w ws e l

pub run-append : (room : ℕ) (w : Bool) (o : Out) (a b : List Node) → run room w o (a ++ b) ≡ run room w (run room w o a) b
unfolding run
run-append room w o [] b = refl
run-append room w o (n ∷ ns) b = run-append room w (note room w o n) ns b

pub run_none : (room : ℕ) (w : Bool) (o : Out) (l : List Node) → [] ≡ l → o ≡ run room w o l
unfolding run
run_none room w o l h = rw (← h)

pub run-single : (room : ℕ) (w : Bool) (o i : Out) (n : Node) (l : List Node) → i ≡ note room w o n → n ∷ [] ≡ l → i ≡ run room w o l
unfolding run
run-single room w o i n l h e = h ∙ ap (run room w o) e

-- a pass that only looks ends with the answer
look-by : (room k : ℕ) (ws : List ℕ) (n : Node) (ns : List Node) (b c : Bool) → ltb depth_bound n.depth ≡ b → ltb k room ≡ c
    → run room false (out ws (Ok (suc k))) ns ≡ out ws (answer_of (listing_of room (suc k) ns)) → run room false (out ws (Ok k)) (n ∷ ns) ≡ out ws (answer_of (listing_of room k (n ∷ ns)))
unfolding run
look-by room k ws n ns true c h g f =
    let d : depth_bound < n.depth = ltb-true depth_bound n.depth h in
    ap (λ (o : Out). run room false o ns) (flip (note-deep room false ws k n d)) ∙ flip (run-stopped room false ws (Deep k) ns)
    ∙ ap (λ (x : Listing). out ws (answer_of x)) (flip (listing-deep room k n ns d))
look-by room k ws n ns false true h g f =
    let d : n.depth ≤ depth_bound = ltb-false depth_bound n.depth h in
    let r : k < room = ltb-true k room g in
    ap (λ (o : Out). run room false o ns) (flip (note-looks room ws k n d r) ∙ ap (λ (i : ℕ). out ws (Ok i)) (add-one k)) ∙ f
    ∙ ap (λ (x : Listing). out ws (answer_of x)) (flip (listing-next room k n ns d r))
look-by room k ws n ns false false h g f =
    let d : n.depth ≤ depth_bound = ltb-false depth_bound n.depth h in
    let r : room ≤ k = ltb-false k room g in
    ap (λ (o : Out). run room false o ns) (flip (note-full room false ws k n d r)) ∙ flip (run-stopped room false ws (Full k) ns)
    ∙ ap (λ (x : Listing). out ws (answer_of x)) (flip (listing_full room k n ns d r))

pub run-looks : (room k : ℕ) (ws : List ℕ) (ns : List Node) → run room false (out ws (Ok k)) ns ≡ out ws (answer_of (listing_of room k ns))
unfolding run listing_of
run-looks room k ws [] = refl
run-looks room k ws (n ∷ ns) = look-by room k ws n ns (ltb depth_bound n.depth) (ltb k room) refl refl (run-looks room (suc k) ws ns)

-- where there is no offender a pass that writes writes all, and ends with the same answer
pub run-writes : (room k : ℕ) (ws : List ℕ) (ns : List Node) → IsAll (listing_of room k ns)
    → run room true (out ws (Ok k)) ns ≡ out (written ws k ns) (answer_of (listing_of room k ns))
unfolding run written listing_of
run-writes room k ws [] i = refl
run-writes room k ws (n ∷ ns) i =
    let e : (n.depth ≤ depth_bound) × (k < room) × IsAll (listing_of room (suc k) ns) = high room k n ns i in
    ap (λ (o : Out). run room true o ns) (flip (note-writes room ws k n e.0 e.1) ∙ ap (λ (i : ℕ). out (put_node ws k n) (Ok i)) (add-one k))
    ∙ run-writes room (suc k) (put_node ws k n) ns e.2
    ∙ ap (λ (x : Listing). out (written (put_node ws k n) (suc k) ns) (answer_of x)) (flip (listing-next room k n ns e.0 e.1))

-- ── the answer, read ──
said-answer : (l : Listing) → said (answer_of l) ≡ l
unfolding said
said-answer (all k) = refl
said-answer (deep k) = refl
said-answer (full k) = refl

all-by : (k : ℕ) (l : Listing) → Ok k ≡ answer_of l → IsAll l
all-by k (all i) h = tt
all-by k (deep i) h = ok-err (Err (Deep i)) k (Deep i) (flip h) refl
all-by k (full i) h = ok-err (Err (Full i)) k (Full i) (flip h) refl

none-by : (e : Offence) (l : Listing) → Err e ≡ answer_of l → IsAll l → ⊥
none-by e (all i) h a = ok-err (Ok i) i e refl (flip h)
none-by e (deep i) h a = a
none-by e (full i) h a = a

-- ── the two passes, as code has them ──
module _ (room : ℕ) (ws o : List ℕ) (v : Result ℕ Offence) (l : List Node) (h : out o v ≡ run room false (out ws (Ok 0)) l) where
  looked : out o v ≡ out ws (answer_of (listing_of room 0 l))
  looked = h ∙ run-looks room 0 ws l

  same-words : o ≡ ws
  same-words = ap (λ (x : Out). x.words) looked

  same-answer : v ≡ answer_of (listing_of room 0 l)
  same-answer = ap (λ (x : Out). x.at) looked

  -- the first one refuses
  pub pass-refused : (e : Offence) → v ≡ Err e → (said v ≡ listing_of room 0 l) × (o ≡ words_of room ws l)
  pass-refused e k =
      (ap said same-answer ∙ said-answer (listing_of room 0 l), same-words ∙ flip (words-refused room ws l (none-by e (listing_of room 0 l) (flip k ∙ same-answer))))

  -- or the second one writes
  pub pass-written : (k : ℕ) (u : List ℕ) (i : Result ℕ Offence) → v ≡ Ok k → out u i ≡ run room true (out o (Ok 0)) l → (said i ≡ listing_of room 0 l) × (u ≡ words_of room ws l)
  unfolding words_of
  pass-written k u i e g =
      let a : IsAll (listing_of room 0 l) = all-by k (listing_of room 0 l) (flip e ∙ same-answer) in
      let f : out u i ≡ out (written ws 0 l) (answer_of (listing_of room 0 l)) =
      g ∙ ap (λ (x : List ℕ). run room true (out x (Ok 0)) l) same-words ∙ run-writes room 0 ws l a in
      (ap (λ (x : Out). said x.at) f ∙ said-answer (listing_of room 0 l), ap (λ (x : Out). x.words) f ∙ flip (if-all (listing_of room 0 l) (written ws 0 l) ws a))
