-- Refusals 11 and 12 by the rows of the match's list: by the one list of nodes that the start symbol has (01, Refusal numbers: "the first node in list order
-- that offends, then 11"). Assumes nothing.
use Rattle.std.specs.Prelude.{ℕ, zero, suc, ◌≤◌, ◌≡◌, List, [], ◌∷◌, length}
use Rattle.std.proofs.Math.Path.{refl, subst}
use Rattle.std.proofs.Common.{ap, ◌∙◌, sym as flip, inl, inr, arith}
use Rattle.std.proofs.Math.Option.{Option, none, some}
use Rattle.read_tokens.specs.declared.Mode.{Mode}
use Rattle.read_tokens.specs.Bounds.{input_bound}
use Rattle.grammar.specs.Exp.{sym}
use Rattle.grammar.specs.Refusal.{Refusal, refusal, ◌▸◌}
use Rattle.match_meaning.specs.Meaning.{Node, Derives}
use Rattle.match_meaning.proofs.laws.One.{one}
use Rattle.match_list.specs.Nodes.{Listing, all, deep, full, listing_of, room_of}
use Rattle.prepare.specs.Prepare.{prepared, refuses}
use Rattle.prepare.specs.laws.Loads.{some-none}
use Rattle.gurkenmond.specs.Calls.{Matching, cells_needed, refuses_input, match_after, match_of}
use Rattle.demands.specs.Meant.{meant}
use Rattle.demands.specs.Offends.{Fits, TooDeep, NoRoom}
use Rattle.demands.specs.Rows.{Row, Row11, Row12}
use Rattle.demands.specs.Checks.{Never, FirstRow, NoRow, input_checks, match_checks}
use Rattle.demands.specs.Demands.{refused_in}
use Rattle.demands.proofs.laws.Chain.{Tells, silent, join, same-refusal}
use Rattle.demands.proofs.laws.Offends.{fits_all, deep-first, full-first, OneOf, one_of}
use Rattle.demands.proofs.laws.Matches.{start-meant, not-matched, matched, too-deep, no_room}
use Rattle.demands.proofs.laws.Refusals.{input-chain}
use Rattle.demands.proofs.laws.Refused.{match-passes}

-- ── two rows ──
module _ (R S : Row) where
  pub neither : Never R → Never S → Tells (R ∷ S ∷ []) none
  neither f g = record { says = λ r e. absurd (some-none r (flip e)); first = λ x. absurd (no x) }
    where
      no : {k p : ℕ} → FirstRow (R ∷ S ∷ []) k p → ⊥
      no {p = p} (inl x) = f p x.1
      no {k} {p} (inr x) = last x.1
        where
          last : FirstRow (S ∷ []) k p → ⊥
          last (inl y) = g p y.1
          last (inr y) = y.1

  is-refusal : {k p i j : ℕ} → i ≡ k → j ≡ p → some (refusal i j) ≡ some (refusal k p)
  is-refusal {k} {p} {i} {j} e f = ap (λ (x : ℕ). some (refusal x j)) e ∙ ap (λ (x : ℕ). some (refusal k x)) f

  told : (r : Refusal) (i j : ℕ) → some (refusal i j) ≡ some r → (i ≡ r.number) × (j ≡ r.place)
  told r i j e = let z : refusal i j ≡ r = same-refusal e in (ap (λ (x : Refusal). x.number) z, ap (λ (x : Refusal). x.place) z)

  pub first-of-two : (j : ℕ) → R.holds j → ((p : ℕ) → R.holds p → j ≡ p) → Tells (R ∷ S ∷ []) (some (refusal R.number j))
  first-of-two j h f = record { says = λ r e. let w = told r R.number j e in inl (w.0, subst R.holds w.1 h); first = only }
    where
      only : {k p : ℕ} → FirstRow (R ∷ S ∷ []) k p → some (refusal R.number j) ≡ some (refusal k p)
      only {p = p} (inl x) = is-refusal x.0 (f p x.1)
      only (inr x) = absurd (x.0 j h)

  pub second-of-two : (j : ℕ) → Never R → S.holds j → ((p : ℕ) → S.holds p → j ≡ p) → Tells (R ∷ S ∷ []) (some (refusal S.number j))
  second-of-two j n h f = record { says = λ r e. let w = told r S.number j e in inr (n, inl (w.0, subst S.holds w.1 h)); first = only }
    where
      only : {k p : ℕ} → FirstRow (R ∷ S ∷ []) k p → some (refusal S.number j) ≡ some (refusal k p)
      only {p = p} (inl x) = absurd (n p x.1)
      only {k} {p} (inr x) = last x.1
        where
          last : FirstRow (S ∷ []) k p → some (refusal S.number j) ≡ some (refusal k p)
          last (inl y) = is-refusal y.0 (f p y.1)
          last (inr y) = absurd y.1

-- what a list says of its nodes
abbrev kind : Listing → ℕ
kind (all k) = 0
kind (deep k) = 1
kind (full k) = 2

abbrev at : Listing → ℕ
at (all k) = k
at (deep k) = k
at (full k) = k

module _ (m : Mode) (t s cs ws : List ℕ) where
  abbrev R11 : Row
  R11 = Row11 m t s ws

  abbrev R12 : Row
  R12 = Row12 m t s ws

  -- the start symbol fails
  failed : {ns : List Node} → Derives (meant m t) s 0 (sym 0) 0 0 ns → Tells (R11 ∷ R12 ∷ []) none
  failed d =
      neither R11 R12
      (λ p h. let e : 0 ≡ suc h.0 = (one (meant m t) s d h.2).0 in omega (arith, e))
      (λ p h. let e : 0 ≡ suc h.0 = (one (meant m t) s d h.2).0 in omega (arith, e))

  -- it takes k bytes, with these nodes
  module _ {k : ℕ} {ns : List Node} (d : Derives (meant m t) s 0 (sym 0) 0 (suc k) ns) where
    abbrev answer : Listing
    answer = listing_of (room_of ws) 0 ns

    is-deep : (p : ℕ) → R11.holds p → answer ≡ deep p
    is-deep p h = ap (listing_of (room_of ws) 0) (one (meant m t) s d h.2).1 ∙ deep-first h.3

    is-full : (p : ℕ) → R12.holds p → answer ≡ full p
    is-full p h = ap (listing_of (room_of ws) 0) (one (meant m t) s d h.2).1 ∙ full-first h.3

    by_fits : Fits (room_of ws) ns → Tells (R11 ∷ R12 ∷ []) none
    by_fits f =
        neither R11 R12
        (λ p h. let e : 0 ≡ 1 = ap kind (flip (fits_all f) ∙ is-deep p h) in omega (arith, e))
        (λ p h. let e : 0 ≡ 2 = ap kind (flip (fits_all f) ∙ is-full p h) in omega (arith, e))

    by-deep : (j : ℕ) → TooDeep (room_of ws) ns j → Tells (R11 ∷ R12 ∷ []) (some (refusal 11 j))
    by-deep j o = first-of-two R11 R12 j (k, ns, d, o) (λ p h. ap at (flip (is-deep j (k, ns, d, o)) ∙ is-deep p h))

    by-full : (j : ℕ) → NoRoom (room_of ws) ns j → Tells (R11 ∷ R12 ∷ []) (some (refusal 12 j))
    by-full j o =
        second-of-two R11 R12 j (λ p h. let e : 2 ≡ 1 = ap kind (flip (is-full j (k, ns, d, o)) ∙ is-deep p h) in omega (arith, e)) (k, ns, d, o)
        (λ p h. ap at (flip (is-full j (k, ns, d, o)) ∙ is-full p h))

  abbrev told-by : Matching → Type 0
  told-by x = Tells (R11 ∷ R12 ∷ []) (refused_in x.answer.outcome)

  late : NoRow (input_checks m t s cs) → told-by (match_of m t s cs ws)
  late z = let w = start-meant m t s cs ws ok short room in go w.0 w.1 w.2
    where
      ok : refuses m t ≡ none
      ok = (match-passes m t s cs z).0

      short : length s ≤ input_bound
      short = (match-passes m t s cs z).1

      room : cells_needed (prepared m t) s ≤ length cs
      room = (match-passes m t s cs z).2

      listed : {k : ℕ} {ns : List Node} → Derives (meant m t) s 0 (sym 0) 0 (suc k) ns → OneOf (room_of ws) ns → told-by (match_of m t s cs ws)
      listed d (inl f) = subst told-by (flip (matched m t s cs ws ok short room d f)) (by_fits d f)
      listed d (inr (inl f)) = subst told-by (flip (too-deep m t s cs ws ok short room d f.1)) (by-deep d f.0 f.1)
      listed d (inr (inr f)) = subst told-by (flip (no_room m t s cs ws ok short room d f.1)) (by-full d f.0 f.1)

      go : (x : ℕ) (ns : List Node) → Derives (meant m t) s 0 (sym 0) 0 x ns → told-by (match_of m t s cs ws)
      go zero ns d = subst told-by (flip (not-matched m t s cs ws ok short room d)) (failed d)
      go (suc k) ns d = listed d (one_of (room_of ws) ns)

  -- the match's whole list, 1 to 12
  pub match-chain : Tells (match_checks m t s cs ws) (refused_in (match_of m t s cs ws).answer.outcome)
  unfolding match_of
  match-chain =
      let a : Option Refusal = refuses m t ▸ refuses_input (prepared m t) s cs in
      subst (Tells (match_checks m t s cs ws)) (by-check a)
      (join a (refused_in (match_after none (prepared m t) s cs ws).answer.outcome) (input-chain m t s cs)
      (λ e. subst told-by (ap (λ (o : Option Refusal). match_after o (prepared m t) s cs ws) e) (late (silent (input-chain m t s cs) e))))
    where
      by-check : (o : Option Refusal) → (o ▸ refused_in (match_after none (prepared m t) s cs ws).answer.outcome) ≡ refused_in (match_after o (prepared m t) s cs ws).answer.outcome
      by-check none = refl
      by-check (some r) = refl
