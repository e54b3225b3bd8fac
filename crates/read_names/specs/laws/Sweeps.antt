-- A walk over the tokens for one range of names, and what all ranges say together. Assumes nothing.
use Prim.Native.Nat.{ℕ, zero, suc, ◌+◌, ◌-◌, ◌≤◌, ◌<◌}
use Rattle.std.specs.Prelude as std
use Rattle.std.specs.Prelude.{◌≡◌, true, not, ◌&&◌, ◌||◌, ◌⊎◌, length, ltb, Some, None}
use Rattle.std.specs.Option.{is_some}
use Rattle.std.proofs.Math.Path.{refl, sym, ap, subst}
use Rattle.std.proofs.Common.{ap₂, ◌∙◌, inl, inr, ⊎_elim, arith, eq-or-lt_of_le, ltb-true, ltb-false}
use Rattle.std.proofs.Math.Bool.{Bool, false}
use Rattle.std.proofs.lemmas.Bool.{false≢true}
use mathlib.Core.List.{List, []}
use Rattle.std.proofs.Math.Option.{Option, none, some}
use Rattle.read_tokens.specs.declared.Mode.{Mode}
use Rattle.read_tokens.specs.declared.Kind.TheVariants.{End}
use Rattle.read_tokens.specs.declared.Token.{Token}
use Rattle.read_tokens.specs.Token.{Symbol, Tok, symbol, leaf, pre, suf, arrow, slash, opens, closes, bad}
use Rattle.read_tokens.specs.Tokens.{token_at, lexemes}
use Rattle.read_tokens.specs.steps.Code.{coded}
use Rattle.read_tokens.specs.laws.Forward.{lexemes_at, forward}
use Rattle.grammar.specs.Same.{same_symbol, is_in}
use Rattle.read_syntax.specs.Reading.{before, left_by, lefts_in, second, unruled, lacks}
use Rattle.read_walks.specs.steps.Names.{hit_by, placed, bad4, Walk, walk_to}
use Rattle.read_walks.specs.laws.Walks.{in_left, next-none, next-some, moves, stuck}
use Rattle.read_tokens.specs.laws.Here.{is-end, is-token}
use Rattle.read_walks.specs.laws.Hits.{all_none, all-next}
use Rattle.read_walks.specs.laws.Offences.{walked, at-token, walked-into, none-lacks, this-lacks, later-lacks}
use Rattle.read_order.specs.steps.Order.{Bound, above, not_above, within}
use Rattle.read_names.specs.steps.Lefts.{Finds, left_at, Met, MetAll, UsedAll, place_by, second4, lacks5, Clear, Struck, Swept, Upto, Whole, Answer}

-- ── all left sides ──
module _ (m : Mode) (s : List ℕ) where
  or_turn : (a b c : Bool) → (a || (b || c)) ≡ ((b || a) || c)
  or_turn true true c = refl
  or_turn true false c = refl
  or_turn false true c = refl
  or_turn false false c = refl

  or-false : (a : Bool) → (a || false) ≡ a
  or-false true = refl
  or-false false = refl

  -- a left side of the text is passed, or comes yet
  seen-split : (x : Symbol) (k : ℕ) → is_in same_symbol x (lefts_in (lexemes m s)) ≡ (is_in same_symbol x (walk_to m s k).seen || is_in same_symbol x (lefts_in (lexemes_at m s (walk_to m s k).at)))
  unfolding walk_to lexemes is_in
  seen-split x zero = refl
  seen-split x (suc k) = go (token_at m s (walk_to m s k).at).is refl (seen-split x k)
    where
      go : (o : Option Tok) → (token_at m s (walk_to m s k).at).is ≡ o
          → is_in same_symbol x (lefts_in (lexemes m s)) ≡ (is_in same_symbol x (walk_to m s k).seen || is_in same_symbol x (lefts_in (lexemes_at m s (walk_to m s k).at)))
          → is_in same_symbol x (lefts_in (lexemes m s)) ≡ (is_in same_symbol x (walk_to m s (suc k)).seen || is_in same_symbol x (lefts_in (lexemes_at m s (walk_to m s (suc k)).at)))
      go none q h = h ∙ ap (λ (w : Walk). is_in same_symbol x w.seen || is_in same_symbol x (lefts_in (lexemes_at m s w.at))) (sym (next-none m s k q))
      go (some u) q h =
          let i : ℕ = (walk_to m s k).at in
          let n : ℕ = (token_at m s i).next in
          let b : Bool = before (lexemes_at m s n) in
          let old : List Symbol = (walk_to m s k).seen in
          h
          ∙ ap (λ (c : Bool). is_in same_symbol x old || c) (all-next m s x i u q)
          ∙ or_turn (is_in same_symbol x old) (hit_by x u b) (is_in same_symbol x (lefts_in (lexemes_at m s n)))
          ∙ ap (λ (c : Bool). c || is_in same_symbol x (lefts_in (lexemes_at m s n))) (sym (in_left x u b old))
          ∙ ap (λ (w : Walk). is_in same_symbol x w.seen || is_in same_symbol x (lefts_in (lexemes_at m s w.at))) (sym (next-some m s k u q))

  seen_all : (k : ℕ) → (token_at m s (walk_to m s k).at).is ≡ none → (x : Symbol) → is_in same_symbol x (walk_to m s k).seen ≡ is_in same_symbol x (lefts_in (lexemes m s))
  seen_all k e x =
      sym (seen-split x k ∙ ap (λ (c : Bool). is_in same_symbol x (walk_to m s k).seen || c) (sym (all_none m s x (walk_to m s k).at e)) ∙ or-false (is_in same_symbol x (walk_to m s k).seen))

-- ── clear up to a token, and up to a place ──
module _ (m : Mode) (s : List ℕ) where
  -- tokens come in order
  earlier : (j k : ℕ) → (walk_to m s j).at < (walk_to m s k).at → j < k
  earlier j k h = go (ltb j k) refl
    where
      go : (b : Bool) → ltb j k ≡ b → j < k
      go true e = ltb-true j k e
      go false e =
          let d : j - k + k ≡ j = omega (arith, ltb-false j k e) in
          absurd (⊎_elim
          (λ (p : walk_to m s (j - k + k) ≡ walk_to m s k). let z : (walk_to m s j).at ≡ (walk_to m s k).at = ap (λ (i : ℕ). (walk_to m s i).at) (sym d) ∙ ap (λ (w : Walk). w.at) p in omega (arith, z, h))
          (λ (p : (walk_to m s k).at < (walk_to m s (j - k + k)).at). let z : (walk_to m s k).at < (walk_to m s j).at = subst (λ (i : ℕ). (walk_to m s k).at < (walk_to m s i).at) d p in omega (arith, z, h))
          (moves m s k (j - k)))

  -- behind the end there is no token
  past_end : (j k : ℕ) → k ≤ j → (token_at m s (walk_to m s k).at).is ≡ none → (token_at m s (walk_to m s j).at).is ≡ none
  past_end j k h e =
      let d : j - k + k ≡ j = omega arith in
      ap (λ (i : ℕ). (token_at m s (walk_to m s i).at).is) (sym d) ∙ ap (λ (w : Walk). (token_at m s w.at).is) (stuck m s k (j - k) (next-none m s k e)) ∙ e

  module _ (bad : ℕ → Tok → Bool) (names : Symbol → Bool) where
    abbrev pub ClearTo : ℕ → Type 0
    ClearTo k = (j : ℕ) (h : Symbol) → j < k → (token_at m s (walk_to m s j).at).is ≡ some (symbol h) → names h ≡ true → bad j (symbol h) ≡ false

    clear-more : (k : ℕ) → ClearTo k → ((h : Symbol) → (token_at m s (walk_to m s k).at).is ≡ some (symbol h) → names h ≡ true → bad k (symbol h) ≡ false) → ClearTo (suc k)
    clear-more k c g j h l q w =
        ⊎_elim
        (λ (e : j ≡ k). ap (λ (i : ℕ). bad i (symbol h)) e ∙ g h (ap (λ (i : ℕ). (token_at m s (walk_to m s i).at).is) (sym e) ∙ q) w)
        (λ (p : j < k). c j h p q w)
        (eq-or-lt_of_le (omega arith))

    clear-place : (k r : ℕ) → ClearTo k → r ≤ (walk_to m s k).at → Clear m s bad names r
    clear-place k r c l j h p = c j h (earlier j k (omega (arith, p, l)))

    clear-end : (k r : ℕ) → ClearTo k → (token_at m s (walk_to m s k).at).is ≡ none → Clear m s bad names r
    clear-end k r c e j h p q = go (ltb j k) refl q
      where
        go : (b : Bool) → ltb j k ≡ b → (token_at m s (walk_to m s j).at).is ≡ some (symbol h) → names h ≡ true → bad j (symbol h) ≡ false
        go true x q w = c j h (ltb-true j k x) q w
        go false x q w = let z : none ≡ some (symbol h) = sym (past_end j k (ltb-false j k x) e) ∙ q in absurd (let y : ◌≡◌ {A = ℕ} 0 1 = cc in omega arith)

    -- a walk for these names is at a place
    pub record Going (at : ℕ) : Type 0 where
      pub k : ℕ
      pub place : (walk_to m s k).at ≡ at
      pub clear : ClearTo k

    pub going : Going 0
    unfolding walk_to
    going = record { k = 0; place = refl; clear = λ j h l. absurd (omega (arith, l)) }

    module _ {at : ℕ} (g : Going at) (t : Token) (e : t ≡ coded (token_at m s at)) where
      is-here : (token_at m s (walk_to m s g.k).at).is ≡ (token_at m s at).is
      is-here = ap (λ (i : ℕ). (token_at m s i).is) g.place

      ended : t.kind ≡ End → (token_at m s (walk_to m s g.k).at).is ≡ none
      ended z = is-here ∙ is-end (token_at m s at).is (sym (ap (λ (x : Token). x.kind) e) ∙ z)

      there : (t.kind ≡ End → ⊥) → (u : Tok) × ((token_at m s at).is ≡ some u)
      there f = is-token (token_at m s at).is (λ y. f (ap (λ (x : Token). x.kind) e ∙ y))

      pub swept-end : (limit : ℕ) → t.kind ≡ End → Swept m s bad names limit limit
      swept-end limit z = record { less = omega arith; clear = clear-end g.k limit g.clear (ended z); why = inl refl }

      pub swept-bad : (limit : ℕ) → at < limit → (u : Tok) → (token_at m s at).is ≡ some u → bad g.k u ≡ true → Swept m s bad names limit at
      swept-bad limit l u q w =
          record {
            less = omega arith;
            clear = clear-place g.k at g.clear (omega (arith, g.place));
            why = inr (record { k = g.k; place = g.place; tok = u; there = is-here ∙ q; worse = w });
          }

      pub goes : (u : Tok) → (token_at m s at).is ≡ some u → ((h : Symbol) → u ≡ symbol h → names h ≡ true → bad g.k u ≡ false) → Going t.next
      goes u q f =
          let p = next-some m s g.k u (is-here ∙ q) in
          record {
            k = suc g.k;
            place = ap (λ (x : Walk). x.at) p ∙ ap (λ (x : ℕ). (token_at m s x).next) g.place ∙ sym (ap (λ (x : Token). x.next) e);
            clear = clear-more g.k g.clear (λ h i w. let z : u ≡ symbol h = same-tok u (symbol h) (sym (is-here ∙ q) ∙ i) in ap (bad g.k) (sym z) ∙ f h z w);
          }
        where
          same-tok : (x y : Tok) → ◌≡◌ {A = Option Tok} (some x) (some y) → x ≡ y
          same-tok x y e = cc

    pub swept-limit : {at : ℕ} (g : Going at) (limit : ℕ) → limit ≤ at → Swept m s bad names limit limit
    swept-limit g limit l = record { less = omega arith; clear = clear-place g.k limit g.clear (omega (arith, g.place, l)); why = inl refl }

    -- nothing is bad up to a place, so up to one before it
    pub swept-sooner : (limit n : ℕ) → limit ≤ n → Swept m s bad names n n → Swept m s bad names limit limit
    swept-sooner limit n l g = record { less = omega arith; clear = λ j h p q w. g.clear j h (omega (arith, p, l)) q w; why = inl refl }

-- ── the walk for 4 in a range ──
module _ (m : Mode) (s a : List ℕ) (low high : Bound) where
  abbrev names : Symbol → Bool
  names = within s low high

  -- the marks are those of the left sides that are passed
  pub record Sweeping (at : ℕ) (marks : List Bool) : Type 0 where
    pub walk : Going m s (second4 m s) names at
    pub knows : Finds s a low high (walk_to m s walk.k).seen marks

  pub sweeping : (marks : List Bool) → Finds s a low high [] marks → Sweeping 0 marks
  unfolding walk_to going
  sweeping marks k = record { walk = going m s (second4 m s) names; knows = k }

  whole : {at : ℕ} {marks : List Bool} (g : Sweeping at marks) → (token_at m s at).is ≡ none → Whole m s a low high marks
  whole {at} {marks} g e x h = sym (seen_all m s g.walk.k (ap (λ (i : ℕ). (token_at m s i).is) g.walk.place ∙ e) x) ∙ g.knows x h

  -- from the text's end on there is no token
  beyond : (at : ℕ) → length s ≤ at → (token_at m s at).is ≡ none
  beyond at h = go (token_at m s at).is refl
    where
      go : (o : Option Tok) → (token_at m s at).is ≡ o → (token_at m s at).is ≡ none
      go none e = e
      go (some u) e = let f = forward m s at u e in absurd (omega (arith, f.behind, f.long, f.within))

  pub sweep-limit : {at : ℕ} {marks : List Bool} (g : Sweeping at marks) (limit : ℕ) → limit ≤ at → Answer m s a low high limit limit marks
  sweep-limit {at} g limit l = (swept-limit m s (second4 m s) names g.walk limit l, λ z. whole g (beyond at (omega (arith, z, l))))

  module _ {at : ℕ} {marks : List Bool} (g : Sweeping at marks) (t : Token) (e : t ≡ coded (token_at m s at)) where
    pub sweep-end : (limit : ℕ) → t.kind ≡ End → Answer m s a low high limit limit marks
    sweep-end limit z = (swept-end m s (second4 m s) names g.walk t e limit z, λ y. whole g (is-end (token_at m s at).is (sym (ap (λ (x : Token). x.kind) e) ∙ z)))

    module _ (f : t.kind ≡ End → ⊥) (r : Bool) (marks' : List Bool) (p : MetAll m s at a low high r marks marks') where
      here : (u : Tok) × ((token_at m s at).is ≡ some u)
      here = is-token (token_at m s at).is (λ y. f (ap (λ (x : Token). x.kind) e ∙ y))

      met : Met m s at a low high r marks' here.0 (walk_to m s g.walk.k).seen
      met = p here.0 here.1 (walk_to m s g.walk.k).seen g.knows

      left_here : left_at m s (walk_to m s g.walk.k).at ≡ left_at m s at
      left_here = ap (left_at m s) g.walk.place

      pub sweep-bad : (limit : ℕ) → at < limit → limit ≤ length s → r ≡ true → Answer m s a low high limit at marks'
      sweep-bad limit l i z = (
        swept-bad m s (second4 m s) names g.walk t e limit l here.0 here.1 (ap (bad4 m (walk_to m s g.walk.k).seen here.0) left_here ∙ met.bad z),
        λ y. absurd (omega (arith, y, l, i)),
      )

      pub sweep-next : r ≡ false → Sweeping t.next marks'
      unfolding goes
      sweep-next z =
          let w = goes m s (second4 m s) names g.walk t e here.0 here.1 (λ h i j. ap (bad4 m (walk_to m s g.walk.k).seen here.0) left_here ∙ met.fine z h i j) in
          record {
            walk = w;
            knows = subst (λ (l : List Symbol). Finds s a low high l marks')
                (sym (ap (λ (x : Walk). x.seen) (next-some m s g.walk.k here.0 (ap (λ (i : ℕ). (token_at m s i).is) g.walk.place ∙ here.1))
                ∙ ap (λ (b : Bool). left_by here.0 b (walk_to m s g.walk.k).seen) left_here)) (met.more z);
          }

-- ── the walk for 5 in a range ──
module _ (m : Mode) (s : List ℕ) (low high : Bound) where
  abbrev names5 : Symbol → Bool
  names5 = within s low high

  module _ {at : ℕ} (g : Going m s (lacks5 m s) names5 at) (t : Token) (e : t ≡ coded (token_at m s at)) (f : t.kind ≡ End → ⊥) (r : Bool) (p : UsedAll m s at low high r) where
    here-5 : (u : Tok) × ((token_at m s at).is ≡ some u)
    here-5 = is-token (token_at m s at).is (λ y. f (ap (λ (x : Token). x.kind) e ∙ y))

    told : (u : Tok) → lacks5 m s g.k u ≡ lacks (lefts_in (lexemes m s)) u (left_at m s at)
    told u = ap (λ (i : ℕ). lacks (lefts_in (lexemes m s)) u (left_at m s i)) g.place

    pub uses-bad : (limit : ℕ) → at < limit → r ≡ true → Swept m s (lacks5 m s) names5 limit at
    uses-bad limit l z = swept-bad m s (lacks5 m s) names5 g t e limit l here-5.0 here-5.1 (told here-5.0 ∙ (p here-5.0 here-5.1).bad z)

    pub uses-next : r ≡ false → Going m s (lacks5 m s) names5 t.next
    uses-next z = goes m s (lacks5 m s) names5 g t e here-5.0 here-5.1 (λ h i j. told here-5.0 ∙ (p here-5.0 here-5.1).fine z h i j)

-- ── all ranges ──
module _ (m : Mode) (s : List ℕ) (bad : ℕ → Tok → Bool) where
  pub upto-none : Upto m s bad None (length s)
  upto-none = record { less = omega arith; clear = λ j h l q w. absurd (false≢true w); why = inl refl }

  -- the range of the names above a bound
  pub swept-low : (b low high : Bound) (limit r : ℕ) → b ≡ low → Swept m s bad (within s b high) limit r → Swept m s bad (within s low high) limit r
  swept-low b low high limit r e p = subst (λ (x : Bound). Swept m s bad (within s x high) limit r) e p

  module _ {low : Bound} {limit : ℕ} (g : Upto m s bad low limit) (high : Bound) (r : ℕ) (p : Swept m s bad (within s low high) limit r) where
    within-limit : r ≤ length s
    within-limit = omega (arith, p.less, g.less)

    reason : (r ≡ length s) ⊎ Struck m s bad r
    reason =
        ⊎_elim (λ (e : r ≡ limit). ⊎_elim (λ (f : limit ≡ length s). inl (e ∙ f)) (λ (k : Struck m s bad limit). inr (subst (Struck m s bad) (sym e) k)) g.why)
        (λ (k : Struck m s bad r). inr k) p.why

    -- a symbol is up to the lower bound, or in the range
    either : (names : Symbol → Bool) → ((x : Symbol) → names x ≡ true → not_above s high x ≡ true) → Clear m s bad names r
    either names f j h l q w = go (above s low h) refl
      where
        go : (b : Bool) → above s low h ≡ b → bad j (symbol h) ≡ false
        go true e = p.clear j h l q (ap₂ (λ (x y : Bool). x && y) e (f h w))
        go false e = g.clear j h (omega (arith, l, p.less)) q (ap not e)

    pub upto_all : is_some high ≡ false → Clear m s bad (λ x. true) r × ((r ≡ length s) ⊎ Struck m s bad r)
    upto_all e = (either (λ x. true) (λ x w. up x high e), reason)
      where
        up : (x : Symbol) (b : Bound) → is_some b ≡ false → not_above s b x ≡ true
        up x None e = refl
        up x (Some v) e = absurd (false≢true (sym e))

-- ── the answers ──
module _ (m : Mode) (s : List ℕ) where
  -- the walk comes to the text's end
  far : (k : ℕ) → ((token_at m s (walk_to m s k).at).is ≡ none) ⊎ (k ≤ (walk_to m s k).at)
  far zero = inr (omega arith)
  far (suc k) = go (token_at m s (walk_to m s k).at).is refl (far k)
    where
      go : (o : Option Tok) → (token_at m s (walk_to m s k).at).is ≡ o → ((token_at m s (walk_to m s k).at).is ≡ none) ⊎ (k ≤ (walk_to m s k).at)
          → ((token_at m s (walk_to m s (suc k)).at).is ≡ none) ⊎ (suc k ≤ (walk_to m s (suc k)).at)
      go none e g = inl (past_end m s (suc k) k (omega arith) e)
      go (some u) e g =
          let f = forward m s (walk_to m s k).at u e in
          let q : (walk_to m s (suc k)).at ≡ (token_at m s (walk_to m s k).at).next = ap (λ (w : Walk). w.at) (next-some m s k u e) in
          ⊎_elim
          (λ (z : (token_at m s (walk_to m s k).at).is ≡ none). let y : none ≡ some u = sym z ∙ e in absurd (let x : ◌≡◌ {A = ℕ} 0 1 = cc in omega arith))
          (λ (l : k ≤ (walk_to m s k).at). inr (omega (arith, q, l, f.behind, f.long))) g

  inside : (k : ℕ) (u : Tok) → (token_at m s (walk_to m s k).at).is ≡ some u → (walk_to m s k).at < length s
  inside k u e = let f = forward m s (walk_to m s k).at u e in omega (arith, f.behind, f.long, f.within)

  last : (token_at m s (walk_to m s (length s)).at).is ≡ none
  last = go (token_at m s (walk_to m s (length s)).at).is refl
    where
      go : (o : Option Tok) → (token_at m s (walk_to m s (length s)).at).is ≡ o → (token_at m s (walk_to m s (length s)).at).is ≡ none
      go none e = e
      go (some u) e =
          ⊎_elim (λ (z : (token_at m s (walk_to m s (length s)).at).is ≡ none). z)
          (λ (l : length s ≤ (walk_to m s (length s)).at). absurd (omega (arith, l, inside (length s) u e))) (far (length s))

  -- only symbols are bad
  second-clear : (r : ℕ) → Clear m s (second4 m s) (λ x. true) r → (j : ℕ) → (walk_to m s j).at < r → (u : Tok) → (token_at m s (walk_to m s j).at).is ≡ some u → false ≡ second4 m s j u
  second-clear r c j l (symbol h) q = sym (c j h l q refl)
  second-clear r c j l (leaf x) q = refl
  second-clear r c j l (pre x) q = refl
  second-clear r c j l (suf x) q = refl
  second-clear r c j l arrow q = refl
  second-clear r c j l slash q = refl
  second-clear r c j l opens q = refl
  second-clear r c j l closes q = refl
  second-clear r c j l bad q = refl

  lacks-clear : (r : ℕ) → Clear m s (lacks5 m s) (λ x. true) r → (j : ℕ) → (walk_to m s j).at < r → (u : Tok) → (token_at m s (walk_to m s j).at).is ≡ some u → false ≡ lacks5 m s j u
  lacks-clear r c j l (symbol h) q = sym (c j h l q refl)
  lacks-clear r c j l (leaf x) q = refl
  lacks-clear r c j l (pre x) q = refl
  lacks-clear r c j l (suf x) q = refl
  lacks-clear r c j l arrow q = refl
  lacks-clear r c j l slash q = refl
  lacks-clear r c j l opens q = refl
  lacks-clear r c j l closes q = refl
  lacks-clear r c j l bad q = refl

  -- what is before token k says nothing
  second_from : (r : ℕ) → Clear m s (second4 m s) (λ x. true) r → (k : ℕ) → ((j : ℕ) → j < k → (u : Tok) → (token_at m s (walk_to m s j).at).is ≡ some u → (walk_to m s j).at < r)
      → second m (walk_to m s k).seen (lexemes_at m s (walk_to m s k).at) ≡ second m [] (lexemes m s)
  unfolding walk_to lexemes
  second_from r c zero f = refl
  second_from r c (suc k) f = go (token_at m s (walk_to m s k).at).is refl (second_from r c k (λ j l. f j (omega (arith, l))))
    where
      go : (o : Option Tok) → (token_at m s (walk_to m s k).at).is ≡ o → second m (walk_to m s k).seen (lexemes_at m s (walk_to m s k).at) ≡ second m [] (lexemes m s)
          → second m (walk_to m s (suc k)).seen (lexemes_at m s (walk_to m s (suc k)).at) ≡ second m [] (lexemes m s)
      go none e h = ap (λ (w : Walk). second m w.seen (lexemes_at m s w.at)) (next-none m s k e) ∙ h
      go (some u) e h =
          ap (λ (w : Walk). second m w.seen (lexemes_at m s w.at)) (next-some m s k u e)
          ∙ sym (at-token m s (walk_to m s k).at (k, refl, h) u e false (second-clear r c k (f k (omega arith) u e) u e))

  lacks-from : (r : ℕ) → Clear m s (lacks5 m s) (λ x. true) r → (k : ℕ) → ((j : ℕ) → j < k → (u : Tok) → (token_at m s (walk_to m s j).at).is ≡ some u → (walk_to m s j).at < r)
      → unruled (lefts_in (lexemes m s)) (lexemes_at m s (walk_to m s k).at) ≡ unruled (lefts_in (lexemes m s)) (lexemes m s)
  unfolding walk_to lexemes
  lacks-from r c zero f = refl
  lacks-from r c (suc k) f = go (token_at m s (walk_to m s k).at).is refl (lacks-from r c k (λ j l. f j (omega (arith, l))))
    where
      go : (o : Option Tok) → (token_at m s (walk_to m s k).at).is ≡ o → unruled (lefts_in (lexemes m s)) (lexemes_at m s (walk_to m s k).at) ≡ unruled (lefts_in (lexemes m s)) (lexemes m s)
          → unruled (lefts_in (lexemes m s)) (lexemes_at m s (walk_to m s (suc k)).at) ≡ unruled (lefts_in (lexemes m s)) (lexemes m s)
      go none e h = ap (λ (w : Walk). unruled (lefts_in (lexemes m s)) (lexemes_at m s w.at)) (next-none m s k e) ∙ h
      go (some u) e h =
          ap (λ (w : Walk). unruled (lefts_in (lexemes m s)) (lexemes_at m s w.at)) (next-some m s k u e)
          ∙ later-lacks m s (lefts_in (lexemes m s)) (walk_to m s k).at u e (lacks-clear r c k (f k (omega arith) u e) u e)
          ∙ h

  -- the tokens before token k are before its place
  in-front : (k : ℕ) (u : Tok) → (token_at m s (walk_to m s k).at).is ≡ some u → (j : ℕ) → j < k → (v : Tok) → (token_at m s (walk_to m s j).at).is ≡ some v → (walk_to m s j).at < (walk_to m s k).at
  in-front k u q j l v e =
      let d : k - j + j ≡ k = omega arith in
      ⊎_elim (λ (p : walk_to m s (k - j + j) ≡ walk_to m s j). absurd (stays (ap (λ (i : ℕ). walk_to m s i) (sym d) ∙ p)))
      (λ (p : (walk_to m s j).at < (walk_to m s (k - j + j)).at). subst (λ (i : ℕ). (walk_to m s j).at < (walk_to m s i).at) d p) (moves m s j (k - j))
    where
      stays : walk_to m s k ≡ walk_to m s j → ⊥
      stays p =
          let f = forward m s (walk_to m s j).at v e in
          let n : (walk_to m s (suc j)).at ≡ (token_at m s (walk_to m s j).at).next = ap (λ (w : Walk). w.at) (next-some m s j v e) in
          let d : k - suc j + suc j ≡ k = omega arith in
          ⊎_elim
          (λ (y : walk_to m s (k - suc j + suc j) ≡ walk_to m s (suc j)).
          let z : (walk_to m s k).at ≡ (walk_to m s (suc j)).at = ap (λ (i : ℕ). (walk_to m s i).at) (sym d) ∙ ap (λ (w : Walk). w.at) y in
          omega (arith, z, ap (λ (w : Walk). w.at) p, n, f.behind, f.long))
          (λ (y : (walk_to m s (suc j)).at < (walk_to m s (k - suc j + suc j)).at).
          let z : (walk_to m s (suc j)).at < (walk_to m s k).at = subst (λ (i : ℕ). (walk_to m s (suc j)).at < (walk_to m s i).at) d y in omega (arith, z, ap (λ (w : Walk). w.at) p, n, f.behind, f.long))
          (moves m s (suc j) (k - suc j))

  placed_by : (at : ℕ) (r : std.Option ℕ) (o : Option Tok) → (token_at m s at).is ≡ o → r ≡ place_by (token_at m s at).is (token_at m s at).start → r ≡ place_by o (token_at m s at).start
  placed_by at r o e h = h ∙ ap (λ (x : Option Tok). place_by x (token_at m s at).start) e

  at_length : (token_at m s (length s)).is ≡ none
  at_length = go (token_at m s (length s)).is refl
    where
      go : (o : Option Tok) → (token_at m s (length s)).is ≡ o → (token_at m s (length s)).is ≡ none
      go none e = e
      go (some u) e = let f = forward m s (length s) u e in absurd (omega (arith, f.behind, f.long, f.within))

  pub second-says : (limit : ℕ) (r : std.Option ℕ) → Clear m s (second4 m s) (λ x. true) limit × ((limit ≡ length s) ⊎ Struck m s (second4 m s) limit)
      → r ≡ place_by (token_at m s limit).is (token_at m s limit).start → r ≡ placed (second m [] (lexemes m s))
  second-says limit r c h =
      ⊎_elim
      (λ (e : limit ≡ length s).
      placed_by limit r none (ap (λ (i : ℕ). (token_at m s i).is) e ∙ at_length) h
      ∙ walked m s (walk_to m s (length s)).at (length s, refl, second_from limit c.0 (length s) (λ j l u q. omega (arith, e, inside j u q))) last)
      (λ (k : Struck m s (second4 m s) limit).
      let q : (token_at m s limit).is ≡ some k.tok = ap (λ (i : ℕ). (token_at m s i).is) (sym k.place) ∙ k.there in
      placed_by limit r (some k.tok) q h
      ∙ ap (λ (i : ℕ). Some (token_at m s i).start) (sym k.place)
      ∙ walked-into m s (walk_to m s k.k).at (token_at m s (walk_to m s k.k).at).start
      (k.k, refl, second_from limit c.0 k.k (λ j l u e. omega (arith, in-front k.k k.tok k.there j l u e, k.place))) k.tok k.there refl (sym k.worse))
      c.1

  -- there is none in the whole text
  pub second_none : Clear m s (second4 m s) (λ x. true) (length s) × ((length s ≡ length s) ⊎ Struck m s (second4 m s) (length s)) → None ≡ placed (second m [] (lexemes m s))
  second_none c = second-says (length s) None c (sym (ap (λ (u : Option Tok). place_by u (token_at m s (length s)).start) at_length))

  pub unruled-says : (limit : ℕ) (r : std.Option ℕ) → Clear m s (lacks5 m s) (λ x. true) limit × ((limit ≡ length s) ⊎ Struck m s (lacks5 m s) limit)
      → r ≡ place_by (token_at m s limit).is (token_at m s limit).start → r ≡ placed (unruled (lefts_in (lexemes m s)) (lexemes m s))
  unruled-says limit r c h =
      ⊎_elim
      (λ (e : limit ≡ length s).
      placed_by limit r none (ap (λ (i : ℕ). (token_at m s i).is) e ∙ at_length) h
      ∙ none-lacks m s (lefts_in (lexemes m s)) (walk_to m s (length s)).at last
      ∙ ap placed (lacks-from limit c.0 (length s) (λ j l u q. omega (arith, e, inside j u q))))
      (λ (k : Struck m s (lacks5 m s) limit).
      let q : (token_at m s limit).is ≡ some k.tok = ap (λ (i : ℕ). (token_at m s i).is) (sym k.place) ∙ k.there in
      placed_by limit r (some k.tok) q h
      ∙ ap (λ (i : ℕ). Some (token_at m s i).start) (sym k.place)
      ∙ this-lacks m s (lefts_in (lexemes m s)) (walk_to m s k.k).at (token_at m s (walk_to m s k.k).at).start k.tok k.there refl (sym k.worse)
      ∙ ap placed (lacks-from limit c.0 k.k (λ j l u e. omega (arith, in-front k.k k.tok k.there j l u e, k.place))))
      c.1

  module _ (at : ℕ) (t : Token) (e : t ≡ coded (token_at m s at)) where
    pub place_none : t.kind ≡ End → None ≡ place_by (token_at m s at).is (token_at m s at).start
    place_none z = sym (ap (λ (o : Option Tok). place_by o (token_at m s at).start) (is-end (token_at m s at).is (sym (ap (λ (x : Token). x.kind) e) ∙ z)))

    pub place-some : (t.kind ≡ End → ⊥) → Some t.start ≡ place_by (token_at m s at).is (token_at m s at).start
    place-some f =
        let x = is-token (token_at m s at).is (λ y. f (ap (λ (x : Token). x.kind) e ∙ y)) in
        ap (λ (y : Token). Some y.start) e ∙ sym (ap (λ (o : Option Tok). place_by o (token_at m s at).start) x.1)
