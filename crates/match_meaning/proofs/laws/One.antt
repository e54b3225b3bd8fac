-- The meaning is one (01, Meaning of a match): of two derivations both the results and the node lists are equal, so "two results that meet it" are one.
-- Assumes nothing.
use Rattle.std.specs.Prelude.{ℕ, suc, ◌+◌, ◌≡◌, refl, List, [], ◌∷◌, ◌++◌}
use Rattle.std.proofs.Common.{ap₂, subst, arith}
use Rattle.match_meaning.specs.Meaning.{Meant, Node, nd, Ask, Tries, any-takes, any-fails, lit-takes, lit-fails, cls-takes, cls-fails, sym-takes, sym-fails, seq-fails, seq-fails-later, seq-takes, alt-first, alt-second, star-ends, star-idles, star-goes, plus-fails, plus-takes, opt-skips, opt-takes, ahead-fails, ahead-takes, never-takes, never-fails, by-rule, by-own, by-water, by-skip, stopped, at-end, own-none, own_is, dry, wet-is, none_of, this-one, later-one}

abbrev pub Same : ℕ → ℕ → List Node → List Node → Type 0
Same x y ns ms = (x ≡ y) × (ns ≡ ms)

clash : {A : Type 0} {m : ℕ} {ns ms : List Node} → Same 0 (suc m) ns ms → A
clash h = absurd (omega (arith, h.0))

clash' : {A : Type 0} {m : ℕ} {ns ms : List Node} → Same (suc m) 0 ns ms → A
clash' h = absurd (omega (arith, h.0))

idle : {A : Type 0} {m : ℕ} {ns ms : List Node} → Same 1 (suc (suc m)) ns ms → A
idle h = absurd (omega (arith, h.0))

idle' : {A : Type 0} {m : ℕ} {ns ms : List Node} → Same (suc (suc m)) 1 ns ms → A
idle' h = absurd (omega (arith, h.0))

both : {m k m' k' : ℕ} {ns ms ns' ms' : List Node} → Same (suc m) (suc m') ns ns' → Same (suc k) (suc k') ms ms' → Same (suc (m + k)) (suc (m' + k')) (ns ++ ms) (ns' ++ ms')
both h g = (omega (arith, h.0, g.0), ap₂ ◌++◌ h.1 g.1)

noded : {d r p m m' : ℕ} {ns ms : List Node} → Same (suc m) (suc m') ns ms → Same (suc m) (suc m') (nd r p (p + m) d ∷ ns) (nd r p (p + m') d ∷ ms)
noded {d} {r} {p} {m} {m'} h = (h.0, ap₂ (λ (i : ℕ) (l : List Node). nd r p (p + i) d ∷ l) (omega (arith, h.0)) h.1)

module _ (g : Meant) (s : List ℕ) where
  move : {b : Ask} (d p : ℕ) {m k x : ℕ} {ns ns' ms : List Node} → Same (suc m) (suc k) ns ns' → Tries g s d b (p + k) x ms → Tries g s d b (p + m) x ms
  move {b} d p {m} {k} {x} {ms = ms} h t = subst (λ (i : ℕ). Tries g s d b (p + i) x ms) (omega (arith, h.0)) t

  pub one : {d p x y : ℕ} {q : Ask} {ns ms : List Node} → Tries g s d q p x ns → Tries g s d q p y ms → Same x y ns ms
  one (any-takes h) (any-takes k) = (refl, refl)
  one (any-takes h) (any-fails k) = absurd (omega arith)
  one (any-fails h) (any-takes k) = absurd (omega arith)
  one (any-fails h) (any-fails k) = (refl, refl)
  one (lit-takes h) (lit-takes k) = (refl, refl)
  one (lit-takes h) (lit-fails k) = absurd (k h)
  one (lit-fails h) (lit-takes k) = absurd (h k)
  one (lit-fails h) (lit-fails k) = (refl, refl)
  one (cls-takes h) (cls-takes k) = (refl, refl)
  one (cls-takes h) (cls-fails k) = absurd (k h)
  one (cls-fails h) (cls-takes k) = absurd (h k)
  one (cls-fails h) (cls-fails k) = (refl, refl)
  one (sym-takes t) (sym-takes u) = noded (one t u)
  one (sym-takes t) (sym-fails u) = clash' (one t u)
  one (sym-fails t) (sym-takes u) = clash (one t u)
  one (sym-fails t) (sym-fails u) = (refl, refl)
  one (seq-fails t) (seq-fails u) = (refl, refl)
  one (seq-fails t) (seq-fails-later u v) = (refl, refl)
  one (seq-fails t) (seq-takes u v) = clash (one t u)
  one (seq-fails-later t k) (seq-fails u) = (refl, refl)
  one (seq-fails-later t k) (seq-fails-later u v) = (refl, refl)
  one (seq-fails-later t k) (seq-takes u v) = clash (one k (move _ _ (one t u) v))
  one (seq-takes t k) (seq-fails u) = clash' (one t u)
  one (seq-takes t k) (seq-fails-later u v) = clash' (one k (move _ _ (one t u) v))
  one (seq-takes t k) (seq-takes u v) = both (one t u) (one k (move _ _ (one t u) v))
  one (alt-first t) (alt-first u) = one t u
  one (alt-first t) (alt-second u v) = clash' (one t u)
  one (alt-second t k) (alt-first u) = clash (one t u)
  one (alt-second t k) (alt-second u v) = one k v
  one (star-ends t) (star-ends u) = (refl, refl)
  one (star-ends t) (star-idles u) = (refl, refl)
  one (star-ends t) (star-goes u v) = clash (one t u)
  one (star-idles t) (star-ends u) = (refl, refl)
  one (star-idles t) (star-idles u) = (refl, refl)
  one (star-idles t) (star-goes u v) = idle (one t u)
  one (star-goes t k) (star-ends u) = clash' (one t u)
  one (star-goes t k) (star-idles u) = idle' (one t u)
  one (star-goes t k) (star-goes u v) = both (one t u) (one k (move _ _ (one t u) v))
  one (plus-fails t) (plus-fails u) = (refl, refl)
  one (plus-fails t) (plus-takes u v) = clash (one t u)
  one (plus-takes t k) (plus-fails u) = clash' (one t u)
  one (plus-takes t k) (plus-takes u v) = both (one t u) (one k (move _ _ (one t u) v))
  one (opt-skips t) (opt-skips u) = (refl, refl)
  one (opt-skips t) (opt-takes u) = clash (one t u)
  one (opt-takes t) (opt-skips u) = clash' (one t u)
  one (opt-takes t) (opt-takes u) = one t u
  one (ahead-fails t) (ahead-fails u) = (refl, refl)
  one (ahead-fails t) (ahead-takes u) = clash (one t u)
  one (ahead-takes t) (ahead-fails u) = clash' (one t u)
  one (ahead-takes t) (ahead-takes u) = (refl, refl)
  one (never-takes t) (never-takes u) = (refl, refl)
  one (never-takes t) (never-fails u) = clash (one t u)
  one (never-fails t) (never-takes u) = clash' (one t u)
  one (never-fails t) (never-fails u) = (refl, refl)
  one (by-rule t) (by-rule u) = one t u
  one (by-own t) (by-own u) = one t u
  one (by-own t) (by-water u v) = clash' (one t u)
  one (by-own t) (by-skip u v w l) = clash' (one t u)
  one (by-own t) (stopped u v w) = clash' (one t u)
  one (by-own t) (at-end u v w l) = clash' (one t u)
  one (by-water t k) (by-own u) = clash (one t u)
  one (by-water t k) (by-water u v) = one k v
  one (by-water t k) (by-skip u v w l) = clash' (one k v)
  one (by-water t k) (stopped u v w) = clash' (one k v)
  one (by-water t k) (at-end u v w l) = clash' (one k v)
  one (by-skip t k j l) (by-own u) = clash (one t u)
  one (by-skip t k j l) (by-water u v) = clash (one k v)
  one (by-skip t k j l) (by-skip u v w i) = (refl, refl)
  one (by-skip t k j l) (stopped u v w) = clash (one j w)
  one (by-skip t k j l) (at-end u v w i) = absurd (omega arith)
  one (stopped t k j) (by-own u) = clash (one t u)
  one (stopped t k j) (by-water u v) = clash (one k v)
  one (stopped t k j) (by-skip u v w i) = clash' (one j w)
  one (stopped t k j) (stopped u v w) = (refl, refl)
  one (stopped t k j) (at-end u v w i) = (refl, refl)
  one (at-end t k j l) (by-own u) = clash (one t u)
  one (at-end t k j l) (by-water u v) = clash (one k v)
  one (at-end t k j l) (by-skip u v w i) = absurd (omega arith)
  one (at-end t k j l) (stopped u v w) = (refl, refl)
  one (at-end t k j l) (at-end u v w i) = (refl, refl)
  one own-none own-none = (refl, refl)
  one (own_is t) (own_is u) = one t u
  one dry dry = (refl, refl)
  one (wet-is t) (wet-is u) = one t u
  one none_of none_of = (refl, refl)
  one (this-one t) (this-one u) = one t u
  one (this-one t) (later-one u v) = clash' (one t u)
  one (later-one t k) (this-one u) = clash (one t u)
  one (later-one t k) (later-one u v) = one k v

  -- a failure has no nodes
  pub bare : {d p x : ℕ} {q : Ask} {ns : List Node} → Tries g s d q p x ns → x ≡ 0 → ns ≡ []
  bare (any-takes k) h = refl
  bare (any-fails k) h = refl
  bare (lit-takes k) h = refl
  bare (lit-fails k) h = refl
  bare (cls-takes k) h = refl
  bare (cls-fails k) h = refl
  bare (sym-takes t) h = absurd (omega arith)
  bare (sym-fails t) h = refl
  bare (seq-fails t) h = refl
  bare (seq-fails-later t u) h = refl
  bare (seq-takes t u) h = absurd (omega arith)
  bare (alt-first t) h = bare t h
  bare (alt-second t u) h = bare u h
  bare (star-ends t) h = refl
  bare (star-idles t) h = refl
  bare (star-goes t u) h = absurd (omega arith)
  bare (plus-fails t) h = refl
  bare (plus-takes t u) h = absurd (omega arith)
  bare (opt-skips t) h = refl
  bare (opt-takes t) h = bare t h
  bare (ahead-fails t) h = refl
  bare (ahead-takes t) h = refl
  bare (never-takes t) h = refl
  bare (never-fails t) h = refl
  bare (by-rule t) h = bare t h
  bare (by-own t) h = bare t h
  bare (by-water t u) h = bare u h
  bare (by-skip t u v l) h = refl
  bare (stopped t u v) h = refl
  bare (at-end t u v l) h = refl
  bare own-none h = refl
  bare (own_is t) h = bare t h
  bare dry h = refl
  bare (wet-is t) h = bare t h
  bare none_of h = refl
  bare (this-one t) h = bare t h
  bare (later-one t u) h = bare u h
