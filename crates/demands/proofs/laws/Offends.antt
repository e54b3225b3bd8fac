-- Every list fits, or has a first node that offends, and the answer is that one (01, Refusal numbers, 11 and 12). Assumes nothing.
use Rattle.std.specs.Prelude.{ℕ, suc, ◌+◌, ◌≤◌, ◌<◌, ◌≡◌, refl, Bool, true, false, List, [], ◌∷◌, ◌++◌, ◌⊎◌, length, ltb}
use Rattle.std.proofs.Common.{sym, ap, ◌∙◌, subst, append_assoc, append-nil, inl, inr, arith, length-append, ltb-true, ltb-false}
use Rattle.read_tokens.specs.Bounds.{depth_bound}
use Rattle.match_meaning.specs.Meaning.{Node}
use Rattle.match_list.specs.Nodes.{all, deep, full, listing_of}
use Rattle.match_list.proofs.laws.Cut.{listing-deep, listing_full, listing-next}
use Rattle.demands.specs.Offends.{Shallow, Fits, Reaches, TooDeep, NoRoom}

-- nodes that do not offend are passed over
passed : (room j : ℕ) (front rest : List Node) → Shallow front → j + length front ≤ room → listing_of room j (front ++ rest) ≡ listing_of room (j + length front) rest
passed room j [] rest h l = ap (λ (i : ℕ). listing_of room i rest) (omega arith)
passed room j (n ∷ front) rest h l =
    listing-next room j n (front ++ rest) h.0 (omega arith) ∙ passed room (suc j) front rest h.1 (omega arith) ∙ ap (λ (i : ℕ). listing_of room i rest) (omega arith)

reached : (room k : ℕ) (ns : List Node) (n : Node) (r : Reaches room ns k n) → listing_of room 0 ns ≡ listing_of room k (n ∷ r.behind)
reached room k ns n r =
    ap (listing_of room 0) r.splits ∙ passed room 0 r.front (n ∷ r.behind) r.shallow (omega (arith, r.number, r.roomy))
    ∙ ap (λ (i : ℕ). listing_of room i (n ∷ r.behind)) (omega (arith, r.number))

pub fits_all : {room : ℕ} {ns : List Node} → Fits room ns → listing_of room 0 ns ≡ all (length ns)
unfolding listing_of
fits_all {room} {ns} f =
    ap (listing_of room 0) (sym (append-nil ns)) ∙ passed room 0 ns [] f.shallow (omega (arith, f.roomy)) ∙ ap all (omega arith)

pub deep-first : {room k : ℕ} {ns : List Node} → TooDeep room ns k → listing_of room 0 ns ≡ deep k
deep-first {room} {k} {ns} d = reached room k ns d.node d.first ∙ listing-deep room k d.node d.first.behind d.deeper

pub full-first : {room k : ℕ} {ns : List Node} → NoRoom room ns k → listing_of room 0 ns ≡ full k
full-first {room} {k} {ns} d = reached room k ns d.node d.first ∙ listing_full room k d.node d.first.behind d.high d.no_room

-- one of the three is so
abbrev pub OneOf : ℕ → List Node → Type 0
OneOf room ns = Fits room ns ⊎ (((k : ℕ) × TooDeep room ns k) ⊎ ((k : ℕ) × NoRoom room ns k))

shallow-next : (front : List Node) (n : Node) → Shallow front → n.depth ≤ depth_bound → Shallow (front ++ (n ∷ []))
shallow-next [] n h l = (l, tt)
shallow-next (x ∷ front) n h l = (h.0, shallow-next front n h.1 l)

-- after the nodes in front, which do not offend
look : (room : ℕ) (ns front rest : List Node) → ns ≡ front ++ rest → Shallow front → length front ≤ room → OneOf room ns
look room ns front [] e h l =
    inl (subst (Fits room) (sym (e ∙ append-nil front)) (record { shallow = h; roomy = l }))
look room ns front (n ∷ rest) e h l =
    go (ltb depth_bound n.depth) (ltb (length front) room) refl refl
    (λ p q. look room ns (front ++ (n ∷ [])) rest (e ∙ sym (append_assoc front (n ∷ []) rest)) (shallow-next front n h p) (omega (arith, q, length-append front (n ∷ []))))
  where
    here : Reaches room ns (length front) n
    here = record { front = front; behind = rest; splits = e; number = refl; shallow = h; roomy = l }

    go : (b c : Bool) → ltb depth_bound n.depth ≡ b → ltb (length front) room ≡ c → (n.depth ≤ depth_bound → length front < room → OneOf room ns) → OneOf room ns
    go true c p q next = inr (inl (length front, record { node = n; first = here; deeper = ltb-true depth_bound n.depth p }))
    go false false p q next =
        inr (inr (length front, record { node = n; first = here; high = ltb-false depth_bound n.depth p; no_room = ltb-false (length front) room q }))
    go false true p q next = next (ltb-false depth_bound n.depth p) (ltb-true (length front) room q)

pub one_of : (room : ℕ) (ns : List Node) → OneOf room ns
one_of room ns = look room ns [] ns refl tt (omega arith)
