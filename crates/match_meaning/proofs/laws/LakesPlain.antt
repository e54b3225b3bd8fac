-- Lakes are plain (01, Lakes made plain): a grammar with lakes and its plain grammar derive the same results and the same node lists, for each expression, at each place and depth.
-- Assumes nothing.
use Rattle.std.specs.Prelude.{ℕ, suc, ◌+◌, ◌≤◌, ◌<◌, refl, ◌↔◌, length}
use Rattle.std.proofs.Common.{subst, arith}
use Rattle.std.proofs.Math.Option.{Option, some, none}
use mathlib.Core.List.{List, [], ◌∷◌}
use Rattle.grammar.specs.Exp.{Exp, alt}
use Rattle.match_meaning.specs.Meaning.{Meant, Node, SymbolBody, rule, lake, Ask, exp, inside, own, wet, some_of, Tries, any-takes, any-fails, lit-takes, lit-fails, cls-takes, cls-fails, sym-takes, sym-fails, seq-fails, seq-fails-later, seq-takes, alt-first, alt-second, star-ends, star-idles, star-goes, plus-fails, plus-takes, opt-skips, opt-takes, ahead-fails, ahead-takes, never-takes, never-fails, by-rule, by-own, by-water, by-skip, stopped, at-end, own-none, own_is, dry, wet-is, none_of, this-one, later-one, Derives, plain_body, plain_of}
use Rattle.match_meaning.proofs.laws.One.{bare}
use Rattle.grammar.specs.Lakes.{step_one, choice_of, skip_of, step_two}

-- in ONE grammar: what a lake tries, and the expression that stands for it
module _ (g : Meant) (s : List ℕ) where
  -- a failure has no nodes
  without : {d p : ℕ} {q : Ask} {ns : List Node} → Tries g s d q p 0 ns → Tries g s d q p 0 []
  without {d} {p} {q} t = subst (λ (l : List Node). Tries g s d q p 0 l) (bare g s t refl) t

  -- the plain body, from what the lake's own right side, water and the skip derive
  own_in : (w o : Option (Exp ℕ)) (ss : List (Exp ℕ)) {d p m : ℕ} {ns : List Node} → Tries g s d (own o) p (suc m) ns → Tries g s d (exp (step_two (step_one w o) ss)) p (suc m) ns
  unfolding step_one step_two
  own_in none none ss x = elim x [ ]
  own_in (some w) none ss x = elim x [ ]
  own_in none (some e) ss (own_is t) = alt-first t
  own_in (some w) (some e) ss (own_is t) = alt-first (alt-first t)

  water-in : (w o : Option (Exp ℕ)) (ss : List (Exp ℕ)) {d p m : ℕ} {ks ns : List Node} → Tries g s d (own o) p 0 ks → Tries g s d (wet w) p (suc m) ns
      → Tries g s d (exp (step_two (step_one w o) ss)) p (suc m) ns
  unfolding step_one step_two
  water-in none o ss x y = elim y [ ]
  water-in (some w) none ss own-none (wet-is u) = alt-first u
  water-in (some w) (some e) ss (own_is t) (wet-is u) = alt-first (alt-second t u)

  skip-in : (w o : Option (Exp ℕ)) (ss : List (Exp ℕ)) {d p x : ℕ} {ks js ns : List Node} → Tries g s d (own o) p 0 ks → Tries g s d (wet w) p 0 js
      → Tries g s d (exp (skip_of ss)) p x ns → Tries g s d (exp (step_two (step_one w o) ss)) p x ns
  unfolding step_one step_two
  skip-in none none ss own-none dry k = k
  skip-in none (some e) ss (own_is t) dry k = alt-second t k
  skip-in (some w) none ss own-none (wet-is u) k = alt-second u k
  skip-in (some w) (some e) ss (own_is t) (wet-is u) k = alt-second (alt-second t u) k

  -- a is the choice of those tried before
  choice-takes : (a : Exp ℕ) (ss : List (Exp ℕ)) {d p m : ℕ} {ns : List Node} → Tries g s d (exp a) p (suc m) ns → Tries g s d (exp (choice_of a ss)) p (suc m) ns
  unfolding choice_of
  choice-takes a [] t = t
  choice-takes a (b ∷ ss) t = choice-takes (alt a b) ss (alt-first t)

  choice-in : (a : Exp ℕ) (ss : List (Exp ℕ)) {d p x : ℕ} {ks ns : List Node} → Tries g s d (exp a) p 0 ks → Tries g s d (some_of ss) p x ns → Tries g s d (exp (choice_of a ss)) p x ns
  unfolding choice_of
  choice-in a [] t none_of = without t
  choice-in a (b ∷ ss) t (this-one u) = choice-takes (alt a b) ss (alt-second t u)
  choice-in a (b ∷ ss) t (later-one u v) = choice-in (alt a b) ss (alt-second t u) v

  -- none of a and al matches, or one of them does
  choice-none : (a : Exp ℕ) (ss : List (Exp ℕ)) {d p : ℕ} {ns : List Node} → Tries g s d (exp (choice_of a ss)) p 0 ns → Tries g s d (some_of (a ∷ ss)) p 0 []
  unfolding choice_of
  choice-none a [] {d} {p} t = later-one t none_of
  choice-none a (b ∷ ss) t = split (choice-none (alt a b) ss t)
    where
      split : {d p : ℕ} → Tries g s d (some_of (alt a b ∷ ss)) p 0 [] → Tries g s d (some_of (a ∷ b ∷ ss)) p 0 []
      split (later-one (alt-second t u) v) = later-one t (later-one u v)

  choice-one : (a : Exp ℕ) (ss : List (Exp ℕ)) {d p m : ℕ} {ns : List Node} → Tries g s d (exp (choice_of a ss)) p (suc m) ns → Tries g s d (some_of (a ∷ ss)) p (suc m) ns
  unfolding choice_of
  choice-one a [] t = this-one t
  choice-one a (b ∷ ss) t = split (choice-one (alt a b) ss t)
    where
      split : {d p m : ℕ} {ns : List Node} → Tries g s d (some_of (alt a b ∷ ss)) p (suc m) ns → Tries g s d (some_of (a ∷ b ∷ ss)) p (suc m) ns
      split (this-one (alt-first t)) = this-one t
      split (this-one (alt-second t u)) = later-one t (this-one u)
      split (later-one (alt-second t u) v) = later-one t (later-one u v)

  skip-takes : {d p : ℕ} {ss : List (Exp ℕ)} {ns : List Node} → Tries g s d (some_of ss) p 0 ns → p < length s → Tries g s d (exp (skip_of ss)) p 2 []
  unfolding skip_of
  skip-takes none_of h = any-takes h
  skip-takes {p = p} (later-one {a = a} {ss = ss} t u) h = seq-takes (never-takes (choice-in a ss t u)) (any-takes {p = p + 0} (omega arith))

  skip-ends : {d p : ℕ} {ss : List (Exp ℕ)} {ns : List Node} → Tries g s d (some_of ss) p 0 ns → length s ≤ p → Tries g s d (exp (skip_of ss)) p 0 []
  unfolding skip_of
  skip-ends none_of h = any-fails h
  skip-ends {p = p} (later-one {a = a} {ss = ss} t u) h = seq-fails-later (never-takes (choice-in a ss t u)) (any-fails {p = p + 0} (omega arith))

  skip-stops : {d p m : ℕ} {ss : List (Exp ℕ)} {ns : List Node} → Tries g s d (some_of ss) p (suc m) ns → Tries g s d (exp (skip_of ss)) p 0 []
  unfolding skip_of
  skip-stops (this-one {a = a} {ss = ss} t) = seq-fails (never-fails (choice-takes a ss t))
  skip-stops (later-one {a = a} {ss = ss} t u) = seq-fails (never-fails (choice-in a ss t u))

  -- the same backwards: what of the three the plain body's success or failure came from
  data Came (w o : Option (Exp ℕ)) (ss : List (Exp ℕ)) (d p : ℕ) : ℕ → List Node → Type 0 where
    from-own : {m : ℕ} {ns : List Node} → Tries g s d (own o) p (suc m) ns → Came w o ss d p (suc m) ns
    from-water : {m : ℕ} {ks ns : List Node} → Tries g s d (own o) p 0 ks → Tries g s d (wet w) p (suc m) ns → Came w o ss d p (suc m) ns
    from-skip : {x : ℕ} {ks js ns : List Node} → Tries g s d (own o) p 0 ks → Tries g s d (wet w) p 0 js → Tries g s d (exp (skip_of ss)) p x ns → Came w o ss d p x ns

  came : (w o : Option (Exp ℕ)) (ss : List (Exp ℕ)) {d p x : ℕ} {ns : List Node} → Tries g s d (exp (step_two (step_one w o) ss)) p x ns → Came w o ss d p x ns
  unfolding step_one step_two
  came none none ss k = from-skip own-none dry k
  came none (some e) ss (alt-first t) = from-own (own_is t)
  came none (some e) ss (alt-second t k) = from-skip (own_is t) dry k
  came (some w) none ss (alt-first u) = from-water own-none (wet-is u)
  came (some w) none ss (alt-second u k) = from-skip own-none (wet-is u) k
  came (some w) (some e) ss (alt-first (alt-first t)) = from-own (own_is t)
  came (some w) (some e) ss (alt-first (alt-second t u)) = from-water (own_is t) (wet-is u)
  came (some w) (some e) ss (alt-second (alt-second t u) k) = from-skip (own_is t) (wet-is u) k

  skip-out : {d p x : ℕ} (o : Option (Exp ℕ)) (ss : List (Exp ℕ)) {ks js ns : List Node} → Tries g s d (own o) p 0 ks → Tries g s d (wet g.water) p 0 js → Tries g s d (exp (skip_of ss)) p x ns
      → Tries g s d (inside (lake o ss)) p x ns
  unfolding skip_of
  skip-out o [] t u (any-takes h) = by-skip t u none_of h
  skip-out o [] t u (any-fails h) = at-end t u none_of h
  skip-out o (a ∷ ss) t u (seq-fails (never-fails v)) = stopped t u (choice-one a ss v)
  skip-out o (a ∷ ss) t u (seq-fails-later (never-takes v) (any-fails h)) = at-end t u (choice-none a ss v) (omega arith)
  skip-out o (a ∷ ss) t u (seq-takes (never-takes v) (any-takes h)) = by-skip t u (choice-none a ss v) (omega arith)

  lake-out : (o : Option (Exp ℕ)) (ss : List (Exp ℕ)) {d p x : ℕ} {ns : List Node} → Came g.water o ss d p x ns → Tries g s d (inside (lake o ss)) p x ns
  lake-out o ss (from-own t) = by-own t
  lake-out o ss (from-water t u) = by-water t u
  lake-out o ss (from-skip t u k) = skip-out o ss t u k

  -- a body, from what its plain right side derives
  body-out : {d p x : ℕ} (b : SymbolBody) {ns : List Node} → Tries g s d (exp (plain_body g.water b)) p x ns → Tries g s d (inside b) p x ns
  unfolding plain_body
  body-out (rule e) t = by-rule t
  body-out (lake o ss) t = lake-out o ss (came g.water o ss t)

-- what is tried in the plain grammar where q is tried in g
unfoldable ask_of : Meant → Ask → Ask
ask_of g (exp e) = exp e
ask_of g (inside b) = inside (rule (plain_body g.water b))
ask_of g (own o) = own o
ask_of g (wet w) = wet w
ask_of g (some_of ss) = some_of ss

module _ (g : Meant) (s : List ℕ) where
  to-plain : {d p x : ℕ} {q : Ask} {ns : List Node} → Tries g s d q p x ns → Tries (plain_of g) s d (ask_of g q) p x ns
  unfolding ask_of plain_body
  to-plain (any-takes h) = any-takes h
  to-plain (any-fails h) = any-fails h
  to-plain (lit-takes h) = lit-takes h
  to-plain (lit-fails h) = lit-fails h
  to-plain (cls-takes h) = cls-takes h
  to-plain (cls-fails h) = cls-fails h
  to-plain (sym-takes t) = sym-takes (to-plain t)
  to-plain (sym-fails t) = sym-fails (to-plain t)
  to-plain (seq-fails t) = seq-fails (to-plain t)
  to-plain (seq-fails-later t u) = seq-fails-later (to-plain t) (to-plain u)
  to-plain (seq-takes t u) = seq-takes (to-plain t) (to-plain u)
  to-plain (alt-first t) = alt-first (to-plain t)
  to-plain (alt-second t u) = alt-second (to-plain t) (to-plain u)
  to-plain (star-ends t) = star-ends (to-plain t)
  to-plain (star-idles t) = star-idles (to-plain t)
  to-plain (star-goes t u) = star-goes (to-plain t) (to-plain u)
  to-plain (plus-fails t) = plus-fails (to-plain t)
  to-plain (plus-takes t u) = plus-takes (to-plain t) (to-plain u)
  to-plain (opt-skips t) = opt-skips (to-plain t)
  to-plain (opt-takes t) = opt-takes (to-plain t)
  to-plain (ahead-fails t) = ahead-fails (to-plain t)
  to-plain (ahead-takes t) = ahead-takes (to-plain t)
  to-plain (never-takes t) = never-takes (to-plain t)
  to-plain (never-fails t) = never-fails (to-plain t)
  to-plain (by-rule t) = by-rule (to-plain t)
  to-plain (by-own {o = o} {ss = ss} t) = by-rule (own_in (plain_of g) s g.water o ss (to-plain t))
  to-plain (by-water {o = o} {ss = ss} t u) = by-rule (water-in (plain_of g) s g.water o ss (to-plain t) (to-plain u))
  to-plain (by-skip {o = o} {ss = ss} t u v h) = by-rule (skip-in (plain_of g) s g.water o ss (to-plain t) (to-plain u) (skip-takes (plain_of g) s (to-plain v) h))
  to-plain (stopped {o = o} {ss = ss} t u v) = by-rule (skip-in (plain_of g) s g.water o ss (to-plain t) (to-plain u) (skip-stops (plain_of g) s (to-plain v)))
  to-plain (at-end {o = o} {ss = ss} t u v h) = by-rule (skip-in (plain_of g) s g.water o ss (to-plain t) (to-plain u) (skip-ends (plain_of g) s (to-plain v) h))
  to-plain own-none = own-none
  to-plain (own_is t) = own_is (to-plain t)
  to-plain dry = dry
  to-plain (wet-is t) = wet-is (to-plain t)
  to-plain none_of = none_of
  to-plain (this-one t) = this-one (to-plain t)
  to-plain (later-one t u) = later-one (to-plain t) (to-plain u)

  -- what a derivation of the plain grammar says of g
  abbrev Back : Ask → ℕ → ℕ → ℕ → List Node → Type 0
  Back (exp e) d p x ns = Tries g s d (exp e) p x ns
  Back (inside (rule e)) d p x ns = Tries g s d (exp e) p x ns
  Back (inside (lake o ss)) d p x ns = Unit
  Back (own o) d p x ns = Unit
  Back (wet w) d p x ns = Unit
  Back (some_of ss) d p x ns = Unit

  from-plain : {d p x : ℕ} {q : Ask} {ns : List Node} → Tries (plain_of g) s d q p x ns → Back q d p x ns
  from-plain (any-takes h) = any-takes h
  from-plain (any-fails h) = any-fails h
  from-plain (lit-takes h) = lit-takes h
  from-plain (lit-fails h) = lit-fails h
  from-plain (cls-takes h) = cls-takes h
  from-plain (cls-fails h) = cls-fails h
  from-plain (sym-takes {r = r} t) = sym-takes (body-out g s (g.body r) (from-plain t))
  from-plain (sym-fails {r = r} t) = sym-fails (body-out g s (g.body r) (from-plain t))
  from-plain (seq-fails t) = seq-fails (from-plain t)
  from-plain (seq-fails-later t u) = seq-fails-later (from-plain t) (from-plain u)
  from-plain (seq-takes t u) = seq-takes (from-plain t) (from-plain u)
  from-plain (alt-first t) = alt-first (from-plain t)
  from-plain (alt-second t u) = alt-second (from-plain t) (from-plain u)
  from-plain (star-ends t) = star-ends (from-plain t)
  from-plain (star-idles t) = star-idles (from-plain t)
  from-plain (star-goes t u) = star-goes (from-plain t) (from-plain u)
  from-plain (plus-fails t) = plus-fails (from-plain t)
  from-plain (plus-takes t u) = plus-takes (from-plain t) (from-plain u)
  from-plain (opt-skips t) = opt-skips (from-plain t)
  from-plain (opt-takes t) = opt-takes (from-plain t)
  from-plain (ahead-fails t) = ahead-fails (from-plain t)
  from-plain (ahead-takes t) = ahead-takes (from-plain t)
  from-plain (never-takes t) = never-takes (from-plain t)
  from-plain (never-fails t) = never-fails (from-plain t)
  from-plain (by-rule t) = from-plain t
  from-plain (by-own t) = tt
  from-plain (by-water t u) = tt
  from-plain (by-skip t u v h) = tt
  from-plain (stopped t u v) = tt
  from-plain (at-end t u v h) = tt
  from-plain own-none = tt
  from-plain (own_is t) = tt
  from-plain dry = tt
  from-plain (wet-is t) = tt
  from-plain none_of = tt
  from-plain (this-one t) = tt
  from-plain (later-one t u) = tt

  pub lakes-are-plain : (d : ℕ) (e : Exp ℕ) (p x : ℕ) (ns : List Node) → Derives g s d e p x ns ↔ Derives (plain_of g) s d e p x ns
  unfolding ask_of
  lakes-are-plain d e p x ns = (λ t. to-plain t, λ t. from-plain t)
