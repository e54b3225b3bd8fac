-- The shape of a node list (01, Meaning of a match: "The node list is preorder"): no node lies higher than where the derivation stands, and each is at most one deeper than the one before it.
-- And a derivation stays within the text, and so does each of its nodes.
-- Assumes nothing.
use Rattle.std.specs.Prelude.{ℕ, suc, ◌+◌, ◌≤◌, List, [], ◌∷◌, ◌++◌, length}
use Rattle.std.proofs.Common.{arith}
use Rattle.match_meaning.specs.Meaning.{Meant, Node, Here, Ask, Tries, any-takes, any-fails, lit-takes, lit-fails, cls-takes, cls-fails, sym-takes, sym-fails, seq-fails, seq-fails-later, seq-takes, alt-first, alt-second, star-ends, star-idles, star-goes, plus-fails, plus-takes, opt-skips, opt-takes, ahead-fails, ahead-takes, never-takes, never-fails, by-rule, by-own, by-water, by-skip, stopped, at-end, own-none, own_is, dry, wet-is, none_of, this-one, later-one}

abbrev pub From : ℕ → List Node → Type 0
From d [] = Unit
From d (n ∷ ns) = (d ≤ n.depth) × From d ns

abbrev pub Climb : ℕ → List Node → Type 0
Climb b [] = Unit
Climb b (n ∷ ns) = (n.depth ≤ b) × Climb (suc n.depth) ns

from-higher : (d : ℕ) (ns : List Node) → From (suc d) ns → From d ns
from-higher d [] h = tt
from-higher d (n ∷ ns) h = (omega (arith, h.0), from-higher d ns h.1)

from-append : (d : ℕ) (ns ms : List Node) → From d ns → From d ms → From d (ns ++ ms)
from-append d [] ms h k = k
from-append d (n ∷ ns) ms h k = (h.0, from-append d ns ms h.1 k)

climb-more : (b c : ℕ) (ns : List Node) → b ≤ c → Climb b ns → Climb c ns
climb-more b c [] l h = tt
climb-more b c (n ∷ ns) l h = (omega (arith, h.0), h.1)

climb-append : (d c : ℕ) (ns ms : List Node) → d ≤ c → From d ns → Climb c ns → Climb d ms → Climb c (ns ++ ms)
climb-append d c [] ms l f h k = climb-more d c ms l k
climb-append d c (n ∷ ns) ms l f h k = (h.0, climb-append d (suc n.depth) ns ms (omega (arith, f.0)) f.1 h.1 k)

abbrev pub Shape : ℕ → List Node → Type 0
Shape d ns = From d ns × Climb d ns

both : (d : ℕ) (ns ms : List Node) → Shape d ns → Shape d ms → Shape d (ns ++ ms)
both d ns ms h k = (from-append d ns ms h.0 k.0, climb-append d d ns ms (omega arith) h.0 h.1 k.1)

here-within : (s bs : List ℕ) (p : ℕ) → p ≤ length s → Here s p bs → length bs + p ≤ length s
here-within s [] p h k = omega arith
here-within s (b ∷ bs) p h k = omega (arith, here-within s bs (suc p) (omega (arith, k.0)) k.2)

-- each node ends no earlier than it starts, and within N bytes
abbrev pub Spans : ℕ → List Node → Type 0
Spans N [] = Unit
Spans N (n ∷ ns) = (n.start ≤ n.end) × (n.end ≤ N) × Spans N ns

spans-append : (N : ℕ) (ns ms : List Node) → Spans N ns → Spans N ms → Spans N (ns ++ ms)
spans-append N [] ms h k = k
spans-append N (n ∷ ns) ms h k = (h.0, h.1, spans-append N ns ms h.2 k)

module _ (g : Meant) (s : List ℕ) where
  pub shape : {d p x : ℕ} {q : Ask} {ns : List Node} → Tries g s d q p x ns → Shape d ns
  shape (any-takes h) = (tt, tt)
  shape (any-fails h) = (tt, tt)
  shape (lit-takes h) = (tt, tt)
  shape (lit-fails h) = (tt, tt)
  shape (cls-takes h) = (tt, tt)
  shape (cls-fails h) = (tt, tt)
  shape (sym-takes {d = d} {ns = ns} t) = ((omega arith, from-higher d ns (shape t).0), (omega arith, (shape t).1))
  shape (sym-fails t) = (tt, tt)
  shape (seq-fails t) = (tt, tt)
  shape (seq-fails-later t u) = (tt, tt)
  shape (seq-takes {d = d} {ns = ns} {ms = ms} t u) = both d ns ms (shape t) (shape u)
  shape (alt-first t) = shape t
  shape (alt-second t u) = shape u
  shape (star-ends t) = (tt, tt)
  shape (star-idles t) = (tt, tt)
  shape (star-goes {d = d} {ns = ns} {ms = ms} t u) = both d ns ms (shape t) (shape u)
  shape (plus-fails t) = (tt, tt)
  shape (plus-takes {d = d} {ns = ns} {ms = ms} t u) = both d ns ms (shape t) (shape u)
  shape (opt-skips t) = (tt, tt)
  shape (opt-takes t) = shape t
  shape (ahead-fails t) = (tt, tt)
  shape (ahead-takes t) = (tt, tt)
  shape (never-takes t) = (tt, tt)
  shape (never-fails t) = (tt, tt)
  shape (by-rule t) = shape t
  shape (by-own t) = shape t
  shape (by-water t u) = shape u
  shape (by-skip t u v h) = (tt, tt)
  shape (stopped t u v) = (tt, tt)
  shape (at-end t u v h) = (tt, tt)
  shape own-none = (tt, tt)
  shape (own_is t) = shape t
  shape dry = (tt, tt)
  shape (wet-is t) = shape t
  shape none_of = (tt, tt)
  shape (this-one t) = shape t
  shape (later-one t u) = shape u

  pub within : {d p x : ℕ} {q : Ask} {ns : List Node} → Tries g s d q p x ns → p ≤ length s → x + p ≤ length s + 1
  within (any-takes h) k = omega arith
  within (any-fails h) k = omega arith
  within (lit-takes {bs = bs} h) k = omega (arith, here-within s bs _ k h)
  within (lit-fails h) k = omega arith
  within (cls-takes h) k = omega (arith, h.0)
  within (cls-fails h) k = omega arith
  within (sym-takes t) k = within t k
  within (sym-fails t) k = omega arith
  within (seq-fails t) k = omega arith
  within (seq-fails-later t u) k = omega arith
  within (seq-takes t u) k = omega (arith, within u (omega (arith, within t k)))
  within (alt-first t) k = within t k
  within (alt-second t u) k = within u k
  within (star-ends t) k = omega arith
  within (star-idles t) k = omega arith
  within (star-goes t u) k = omega (arith, within u (omega (arith, within t k)))
  within (plus-fails t) k = omega arith
  within (plus-takes t u) k = omega (arith, within u (omega (arith, within t k)))
  within (opt-skips t) k = omega arith
  within (opt-takes t) k = within t k
  within (ahead-fails t) k = omega arith
  within (ahead-takes t) k = omega arith
  within (never-takes t) k = omega arith
  within (never-fails t) k = omega arith
  within (by-rule t) k = within t k
  within (by-own t) k = within t k
  within (by-water t u) k = within u k
  within (by-skip t u v h) k = omega arith
  within (stopped t u v) k = omega arith
  within (at-end t u v h) k = omega arith
  within own-none k = omega arith
  within (own_is t) k = within t k
  within dry k = omega arith
  within (wet-is t) k = within t k
  within none_of k = omega arith
  within (this-one t) k = within t k
  within (later-one t u) k = within u k

  pub spans : {d p x : ℕ} {q : Ask} {ns : List Node} → Tries g s d q p x ns → p ≤ length s → Spans (length s) ns
  spans (any-takes h) k = tt
  spans (any-fails h) k = tt
  spans (lit-takes h) k = tt
  spans (lit-fails h) k = tt
  spans (cls-takes h) k = tt
  spans (cls-fails h) k = tt
  spans (sym-takes t) k = (omega arith, omega (arith, within t k), spans t k)
  spans (sym-fails t) k = tt
  spans (seq-fails t) k = tt
  spans (seq-fails-later t u) k = tt
  spans (seq-takes {ns = ns} {ms = ms} t u) k = spans-append (length s) ns ms (spans t k) (spans u (omega (arith, within t k)))
  spans (alt-first t) k = spans t k
  spans (alt-second t u) k = spans u k
  spans (star-ends t) k = tt
  spans (star-idles t) k = tt
  spans (star-goes {ns = ns} {ms = ms} t u) k = spans-append (length s) ns ms (spans t k) (spans u (omega (arith, within t k)))
  spans (plus-fails t) k = tt
  spans (plus-takes {ns = ns} {ms = ms} t u) k = spans-append (length s) ns ms (spans t k) (spans u (omega (arith, within t k)))
  spans (opt-skips t) k = tt
  spans (opt-takes t) k = spans t k
  spans (ahead-fails t) k = tt
  spans (ahead-takes t) k = tt
  spans (never-takes t) k = tt
  spans (never-fails t) k = tt
  spans (by-rule t) k = spans t k
  spans (by-own t) k = spans t k
  spans (by-water t u) k = spans u k
  spans (by-skip t u v h) k = tt
  spans (stopped t u v) k = tt
  spans (at-end t u v h) k = tt
  spans own-none k = tt
  spans (own_is t) k = spans t k
  spans dry k = tt
  spans (wet-is t) k = spans t k
  spans none_of k = tt
  spans (this-one t) k = spans t k
  spans (later-one t u) k = spans u k
