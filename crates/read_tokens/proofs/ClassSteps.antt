-- The ways through an item of a class, a turn of the loop over one, and what becomes of the marks. Assumes nothing.
use Prim.Native.Nat.{ℕ, zero, suc, ◌+◌, ◌-◌, ◌≤◌, ◌<◌}
use mathlib.Core.Path.{◌≡◌, refl, sym, ap, ◌∙◌, subst}
use mathlib.Core.Bool.{Bool, true, false, not, beq}
use mathlib.Core.List.{List, [], ◌∷◌}
use native.Mathlib.Omega.{arith}
use native.Mathlib.Numerals.{add-one}
use lib.Dec.{eqb}
use lib.ListN.{length, drop, get_or, set, replicate, drop_of_length-le, length-drop, length-replicate}
use lib.Seq.{drop-cons, drop-drop}
use borrow.Rule.Slice.PartMut.{put_mid}
use borrow.Author.Tests.{eq-eqb, ne_eqb, le-leb, lt-leb, eqb-true}
use Rattle.read_tokens.specs.declared.Mode.{Mode}
use Rattle.read_tokens.specs.declared.Mode.TheVariants.{Lake, Plain}
use Rattle.std.specs.Prelude.{Option, Some, None, slice_get, unwrap_or}
use Rattle.std.specs.List.{list_any}
use Rattle.read_tokens.specs.declared.Kind.TheVariants as kind
use Rattle.read_tokens.specs.declared.classes.Item as declared
use Rattle.read_tokens.specs.Token as spec
use Rattle.read_tokens.specs.Token.{leaf, class}
use Rattle.read_tokens.specs.Chars.{char, Range, range, Item, item, ranged, dashed, started, listed, Body, shut, broken, also, by_width, body}
use Rattle.read_tokens.specs.Tokens.{bad_at, some_true, class_marks, class_token, class_by, bracket}
use Rattle.read_tokens.specs.laws.Tests.{by-test}
use Rattle.read_tokens.specs.laws.Marks.{paint, paint_all, turn_all, painted, painted-turned, paints-length}
use Rattle.read_tokens.specs.laws.Turning.{turn_from, turns, somes, some_at}
use Rattle.read_tokens.specs.laws.Passing.{from, passed}
use Rattle.read_tokens.specs.laws.Forward.{Ended, body_ended}
use Rattle.read_tokens.specs.steps.Code.{item_by, item_of, Painted, caret_at, no_class, Class, class_here, class_is, class_at, Filled, coded, made}
use Rattle.read_tokens.proofs.CharSteps.{suffix, first-at, inside}

-- ── an item ──
abbrev pub item_is : ℕ → ℕ → ℕ → Option declared.Item
item_is a b w = Some (record { lo = a; hi = b; width = w })

-- an item takes a byte at least
is_item : (a b w : ℕ) → (w ≡ 0 → ⊥) → item_is a b w ≡ item_by a b w
is_item a b zero h = absurd (h refl)
is_item a b (suc w) h = refl

-- what an item that is there says, and one that is none
record There (r : declared.Item) (a b w : ℕ) : Type 0 where
  pub is : r ≡ record { lo = a; hi = b; width = w }
  pub some : w ≡ 0 → ⊥

there : {r : declared.Item} (a b w : ℕ) → Some r ≡ item_by a b w → There r a b w
there a b zero e = let z : ◌≡◌ {A = ℕ} 0 1 = cc in absurd (omega arith)
there {r} a b (suc n) e = record { is = ap (λ (o : Option declared.Item). unwrap_or o r) e; some = λ z. omega arith }

missing : (a b w : ℕ) → None ≡ item_by a b w → w ≡ 0
missing a b zero e = refl
missing a b (suc n) e = let z : ◌≡◌ {A = ℕ} 0 1 = cc in absurd (omega arith)

pub item_some : {r : declared.Item} (i : Item) → Some r ≡ item_of i → r.width ≡ 0 → ⊥
item_some i e z = (there i.span.lo i.span.hi i.width e).some (sym (ap (λ (x : declared.Item). x.width) (there i.span.lo i.span.hi i.width e).is) ∙ z)

module _ (s : List ℕ) (i a w : ℕ) (p : a ≡ (char (drop i s)).byte) (q : w ≡ (char (drop i s)).width) where
  start : listed (drop i s) ≡ started a w (drop i s)
  unfolding listed
  start = rw (← p, ← q)

  pub item-none : w ≡ 0 → None ≡ item_of (listed (drop i s))
  item-none e = sym (ap item_of (start ∙ ap (λ (x : ℕ). started a x (drop i s)) e))

  module _ (h : w ≡ 0 → ⊥) where
    behind : listed (drop i s) ≡ dashed a w (drop (i + w) s)
    behind = start ∙ go w h
      where
        go : (x : ℕ) → (x ≡ 0 → ⊥) → started a x (drop i s) ≡ dashed a x (drop (i + x) s)
        go zero h = absurd (h refl)
        go (suc x) h = ap (λ (l : List ℕ). dashed a (suc x) l) (drop-drop (suc x) i s)

    single-go : (l : List ℕ) → (get_or l 0 256 ≡ 45 → ⊥) → dashed a w l ≡ item a a w
    unfolding dashed
    single-go [] f = refl
    single-go (b ∷ l) f = rw (dashed, ne_eqb b 45 f)

    pub item-single : (get_or s (i + w) 256 ≡ 45 → ⊥) → item_is a a w ≡ item_of (listed (drop i s))
    item-single k = is_item a a w h ∙ sym (ap item_of (behind ∙ single-go (drop (i + w) s) (λ x. k (sym (first-at s (i + w)) ∙ x))))

    module _ (e : get_or s (i + w) 256 ≡ 45) (b v : ℕ) (f : b ≡ (char (drop (i + w + 1) s)).byte) (g : v ≡ (char (drop (i + w + 1) s)).width) where
      dash-at : (j : ℕ) → get_or s j 256 ≡ 45 → drop j s ≡ 45 ∷ drop (j + 1) s
      dash-at j e = let h = inside s j 45 e (omega arith) in rw (add-one, drop-cons s j 256 h, e)

      dash-yes : listed (drop i s) ≡ ranged a w b v
      unfolding dashed
      dash-yes = behind ∙ ap (λ (l : List ℕ). dashed a w l) (dash-at (i + w) e) ∙ rw (← f, ← g)

      pub item-cut : v ≡ 0 → None ≡ item_of (listed (drop i s))
      item-cut z = sym (ap item_of (dash-yes ∙ ap (λ (x : ℕ). ranged a w b x) z))

      pub item_back : b < a → None ≡ item_of (listed (drop i s))
      item_back z = sym (ap item_of (dash-yes ∙ go v))
        where
          go : (x : ℕ) → ranged a w b x ≡ item 0 0 0
          go zero = refl
          go (suc x) = rw (lt-leb a b z)

      pub item-range : (v ≡ 0 → ⊥) → a ≤ b → item_is a b (w + 1 + v) ≡ item_of (listed (drop i s))
      item-range z k = is_item a b (w + 1 + v) (λ n. h (omega arith)) ∙ sym (ap item_of (dash-yes ∙ go v z))
        where
          go : (x : ℕ) → (x ≡ 0 → ⊥) → ranged a w b x ≡ item a b (w + 1 + x)
          go zero n = absurd (n refl)
          go (suc x) n = rw (le-leb a b k)

-- ── a range of marks that is filled ──
paint-cons : (n lo : ℕ) (x : Bool) (l : List Bool) → paint (suc lo) n (x ∷ l) ≡ x ∷ paint lo n l
unfolding paint
paint-cons zero lo x l = refl
paint-cons (suc n) lo x l = paint-cons n (suc lo) x (set l lo true)

paint-mid : (lo n : ℕ) (l : List Bool) → lo + n ≤ length l → put_mid lo n l (replicate n true) ≡ paint lo n l
unfolding paint
paint-mid zero zero l h = refl
paint-mid zero (suc n) [] h = absurd (omega arith)
paint-mid zero (suc n) (x ∷ l) h = ap (λ (m : List Bool). true ∷ m) (paint-mid zero n l (omega arith)) ∙ sym (paint-cons n zero true l)
paint-mid (suc lo) n [] h = absurd (omega arith)
paint-mid (suc lo) n (x ∷ l) h = ap (λ (m : List Bool). x ∷ m) (paint-mid lo n l (omega arith)) ∙ sym (paint-cons n lo x l)

pub range-filled : (lo hi a n : ℕ) (l m : List Bool) → lo ≤ hi → hi < length l → a ≡ lo → n ≡ suc hi - lo → m ≡ replicate n true
    → put_mid a n l m ≡ paint lo (suc hi - lo) l
range-filled lo hi a n l m h k e f g = rw (g, e, f) (paint-mid lo (suc hi - lo) l (omega arith))

-- ── the loop over what is listed: what is left to be set ──
abbrev rest : List ℕ → ℕ → Body
rest s i = from 93 listed s i

-- from this place and these marks on the promise is the promise from there and those on
pub record To (s : List ℕ) (i : ℕ) (l : List Bool) (i₀ : ℕ) (l₀ : List Bool) : Type 0 where
  pub back : (new : List Bool) (r : Option ℕ) → Painted (rest s i) l new r → Painted (rest s i₀) l₀ new r

pub at-end : (s : List ℕ) (i : ℕ) (l new : List Bool) → length s ≤ i → Painted (rest s i) l new None
unfolding body
at-end s i l new h = rw (drop_of_length-le s h) refl

pub at-close : (s : List ℕ) (i : ℕ) (l : List Bool) → i < length s → get_or s i 0 ≡ 93 → Painted (rest s i) l l (Some (i + 1))
unfolding body paint_all
at-close s i l h e = rw (suffix s i h, eq-eqb (get_or s i 0) 93 e) (ap Some (add-one i), refl)

item_from : {r : declared.Item} (i : Item) → Some r ≡ item_of i → i ≡ item r.lo r.hi r.width
item_from i e = sym (ap (λ (x : declared.Item). item x.lo x.hi x.width) (there i.span.lo i.span.hi i.width e).is)

also-back : (r : Range) (o : Body) (l new : List Bool) (x : Option ℕ) → Painted o (paint r.lo (suc r.hi - r.lo) l) new x → Painted (also r o) l new x
unfolding paint_all
also-back r (shut rs e) l new x h = h
also-back r broken l new x h = h

module _ (s : List ℕ) (i : ℕ) (h : i < length s) (f : get_or s i 0 ≡ 93 → ⊥) where
  turn_at : (a b w : ℕ) → listed (drop i s) ≡ item a b w → rest s i ≡ by_width w (range a b) (λ k. body 93 listed k (suc i) (drop (i + 1) s))
  unfolding body
  turn_at a b w e =
      let d = suffix s i h in
      let u : listed (get_or s i 0 ∷ drop (i + 1) s) ≡ item a b w = ap listed (sym d) ∙ e in
      ap (λ (x : List ℕ). body 93 listed 0 i x) d ∙ rw (ne_eqb (get_or s i 0) 93 f, u)

  pub no_item : (l new : List Bool) → None ≡ item_of (listed (drop i s)) → Painted (rest s i) l new None
  no_item l new o =
      let j : Item = listed (drop i s) in
      let w : j.width ≡ 0 = missing j.span.lo j.span.hi j.width o in
      rw (turn_at j.span.lo j.span.hi j.width refl ∙ ap (λ (x : ℕ). by_width x j.span (λ k. body 93 listed k (suc i) (drop (i + 1) s))) w) refl

  module _ (r : declared.Item) (o : Some r ≡ item_of (listed (drop i s))) where
    here : (w : ℕ) → r.width ≡ w → (w ≡ 0 → ⊥) → rest s i ≡ also (range r.lo r.hi) (rest s (i + w))
    here zero e z = absurd (z refl)
    here (suc k) e z =
        turn_at r.lo r.hi r.width (item_from (listed (drop i s)) o)
        ∙ ap (λ (x : ℕ). by_width x (range r.lo r.hi) (λ k. body 93 listed k (suc i) (drop (i + 1) s))) e
        ∙ ap (λ (x : Body). also (range r.lo r.hi) x) (passed 93 listed s i k)

    pub one-item : (l : List Bool) → To s (i + r.width) (paint r.lo (suc r.hi - r.lo) l) i l
    one-item l =
        record {
          back = λ new x p. subst (λ (y : Body). Painted y l new x) (sym (here r.width refl (item_some (listed (drop i s)) o)))
              (also-back (range r.lo r.hi) (rest s (i + r.width)) l new x p);
        }

pub to_same : {s : List ℕ} {i : ℕ} {l : List Bool} → To s i l i l
to_same = record { back = λ new r p. p }

pub to-on : {s : List ℕ} {i j k : ℕ} {a b b' c : List Bool} → b' ≡ b → To s j b i a → To s i a k c → To s j b' k c
to-on {s} {i} {j} e f g = record { back = λ new r p. g.back new r (f.back new r (subst (λ (x : List Bool). Painted (rest s j) x new r) e p)) }

-- ── the loop that turns the marks ──
pub turn_one : (i : ℕ) (l : List Bool) → i < 256 → turn_from (i + 1) (256 - (i + 1)) (set l i (not (get_or l i false))) ≡ turn_from i (256 - i) l
unfolding turn_from
turn_one i l h =
    let e : 256 - i ≡ suc (256 - (i + 1)) = omega arith in
    sym (ap (λ (n : ℕ). turn_from i n l) e ∙ ap (λ (x : ℕ). turn_from x (256 - (i + 1)) (set l i (not (get_or l i false)))) (sym (add-one i)))

pub turn-none : (i : ℕ) (l : List Bool) → 256 ≤ i → l ≡ turn_from i (256 - i) l
unfolding turn_from
turn-none i l h = let e : 256 - i ≡ 0 = omega arith in sym (ap (λ (n : ℕ). turn_from i n l) e)

-- ── the class ──
pub unmarked : (o : Body) (old new : List Bool) (r : Option ℕ) → old ≡ replicate 256 false → Painted o old new r → Painted o (replicate 256 false) new r
unmarked o old new r e p = subst (λ (l : List Bool). Painted o l new r) e p

pub filled-as : {c d : Class} (new : List Bool) (r : Option ℕ) → c ≡ d → Filled c new r → Filled d new r
filled-as new r e f = subst (λ (x : Class). Filled x new r) e f

pub settled-yes : (l : List Bool) (e : ℕ) → some_true l ≡ true → class_here l e ≡ class_is (class_token (some_true l) l 0 e)
settled-yes l e h = sym (ap (λ (x : Bool). class_is (class_token x l 0 e)) h)

pub settled-no : (l : List Bool) (e : ℕ) → some_true l ≡ false → no_class ≡ class_is (class_token (some_true l) l 0 e)
settled-no l e h = sym (ap (λ (x : Bool). class_is (class_token x l 0 e)) h)

-- whether a mark is set, as the code finds it
pub some_here : (l : List Bool) (h : ℕ) → h < length l → get_or l h false ≡ true → true ≡ some_true l
some_here l h k e = sym (sym (somes l) ∙ some_at (length l) 0 h l (omega arith) (omega arith) e)

pub listed_any : (l : List Bool) → list_any (λ y. beq y true) l ≡ some_true l
unfolding some_true
listed_any [] = refl
listed_any (true ∷ l) = refl
listed_any (false ∷ l) = listed_any l

-- behind what is painted
pub painted-behind : (s : List ℕ) (i n : ℕ) (old new : List Bool) → i ≤ length s → Painted (rest s i) old new (Some n) → i < n
painted-behind s i n old new h p = go (rest s i) (body_ended 93 listed 0 i (drop i s) (length s) (omega (arith, length-drop i s))) p
  where
    go : (o : Body) → Ended o i (length s) → Painted o old new (Some n) → i < n
    go (shut rs e) k p = omega (arith, k.0, ap (λ (o : Option ℕ). unwrap_or o 0) p.0)
    go broken k p = let z : ◌≡◌ {A = ℕ} 0 1 = cc in absurd (omega arith)

pub no-byte : (c : Bool) (s : List ℕ) (i : ℕ) → None ≡ slice_get s i → no_class ≡ class_is (class_by c 0 (rest s i))
unfolding body class_by
no-byte c s i e = go (drop i s) (drop_of_length-le s (past s i e))
  where
    past : (l : List ℕ) (j : ℕ) → None ≡ slice_get l j → length l ≤ j
    past [] j e = omega arith
    past (x ∷ l) zero e = let z : ◌≡◌ {A = ℕ} 0 1 = cc in absurd (omega arith)
    past (x ∷ l) (suc j) e = let r = past l j e in omega arith

    go : (l : List ℕ) → l ≡ [] → no_class ≡ class_is (class_by c 0 (body 93 listed 0 i l))
    go [] e = refl
    go (b ∷ l) e = let z : ◌≡◌ {A = ℕ} 0 1 = cc in absurd (omega arith)

pub nothing-listed : (c : Bool) (s : List ℕ) (i : ℕ) → get_or s i 256 ≡ 93 → no_class ≡ class_is (class_by c 0 (rest s i))
unfolding body class_by
nothing-listed c s i e = go (drop i s) (first-at s i ∙ e)
  where
    go : (l : List ℕ) → get_or l 0 256 ≡ 93 → no_class ≡ class_is (class_by c 0 (body 93 listed 0 i l))
    go [] e = refl
    go (b ∷ l) e = rw (eq-eqb b 93 e)

-- what is listed is something
abbrev Listed : Body → Type 0
Listed (shut [] e) = ⊥
Listed (shut (r ∷ rs) e) = Unit {0}
Listed broken = Unit {0}

also-some : (r : Range) (o : Body) → Listed (also r o)
also-some r (shut rs e) = tt
also-some r broken = tt

width_some : (w : ℕ) (r : Range) (k : ℕ → Body) → Listed (by_width w r k)
width_some zero r k = tt
width_some (suc w) r k = also-some r (k w)

some-listed : (s : List ℕ) (i : ℕ) → (get_or s i 256 ≡ 93 → ⊥) → Listed (rest s i)
unfolding body
some-listed s i f = go (drop i s) (λ x. f (sym (first-at s i) ∙ x))
  where
    go : (l : List ℕ) → (get_or l 0 256 ≡ 93 → ⊥) → Listed (body 93 listed 0 i l)
    go [] f = tt
    go (b ∷ l) f = rw (ne_eqb b 93 f) (width_some (listed (b ∷ l)).width (listed (b ∷ l)).span (λ n. body 93 listed n (suc i) l))

-- 256 marks by place are the marks
turned-all : (l : List Bool) → length l ≡ 256 → turn_from 0 256 l ≡ turn_all l
turned-all l e = ap (λ (n : ℕ). turn_from 0 n l) (sym e) ∙ turns l

painted-length : (new : List Bool) (rs : List Range) → new ≡ paint_all rs (replicate 256 false) → length new ≡ 256
painted-length new rs e = ap length e ∙ paints-length rs (replicate 256 false) ∙ length-replicate 256 false

settled_same : {a b : List Bool} {d e : ℕ} → a ≡ b → d ≡ e → class_is (class_token (some_true a) a 0 d) ≡ class_is (class_token (some_true b) b 0 e)
settled_same x y = λ j. class_is (class_token (some_true (x j)) (x j) 0 (y j))

place_is : {r e : ℕ} → Some r ≡ Some e → r ≡ e
place_is {r} e = ap (λ (o : Option ℕ). unwrap_or o r) e

module _ (new : List Bool) where
  broken-go : (c : Bool) (o : Body) → Painted o (replicate 256 false) new None → no_class ≡ class_is (class_by c 0 o)
  unfolding class_by
  broken-go c (shut rs e) p = let z : ◌≡◌ {A = ℕ} 0 1 = (let y = p.0 in cc) in absurd (omega arith)
  broken-go c broken p = refl

  pub broken-is : (c : Bool) (s : List ℕ) (i : ℕ) → Painted (rest s i) (replicate 256 false) new None → no_class ≡ class_is (class_by c 0 (rest s i))
  broken-is c s i p = broken-go c (rest s i) p

  plain-go : (r : ℕ) (o : Body) → Listed o → Painted o (replicate 256 false) new (Some r) → class_is (class_token (some_true new) new 0 r) ≡ class_is (class_by false 0 o)
  unfolding class_by
  plain-go r (shut [] e) u p = absurd u
  plain-go r (shut (x ∷ rs) e) u p = settled_same (p.1 ∙ painted (x ∷ rs)) (place_is p.0)
  plain-go r broken u p = let z : ◌≡◌ {A = ℕ} 0 1 = cc in absurd (omega arith)

  pub plain-is : (r : ℕ) (s : List ℕ) (i : ℕ) → (get_or s i 256 ≡ 93 → ⊥) → Painted (rest s i) (replicate 256 false) new (Some r) → class_is (class_token (some_true new) new 0 r) ≡ class_is
      (class_by false 0 (rest s i))
  plain-is r s i f = plain-go r (rest s i) (some-listed s i f)

  turned-go : (r : ℕ) (o : Body) → Listed o → Painted o (replicate 256 false) new (Some r)
      → class_is (class_token (some_true (turn_from 0 256 new)) (turn_from 0 256 new) 0 r) ≡ class_is (class_by true 0 o)
  unfolding class_by
  turned-go r (shut [] e) u p = absurd u
  turned-go r (shut (x ∷ rs) e) u p =
      settled_same (turned-all new (painted-length new (x ∷ rs) p.1) ∙ ap turn_all p.1 ∙ painted-turned (x ∷ rs)) (place_is p.0)
  turned-go r broken u p = let z : ◌≡◌ {A = ℕ} 0 1 = cc in absurd (omega arith)

  pub turned-is : (r : ℕ) (s : List ℕ) (i : ℕ) → (get_or s i 256 ≡ 93 → ⊥) → Painted (rest s i) (replicate 256 false) new (Some r)
      → class_is (class_token (some_true (turn_from 0 256 new)) (turn_from 0 256 new) 0 r) ≡ class_is (class_by true 0 (rest s i))
  turned-is r s i f = turned-go r (rest s i) (some-listed s i f)

-- ── by the mode ──
unplaced : (c : Bool) (i : ℕ) (o : Body) → class_is (class_by c 0 o) ≡ class_is (class_by c i o)
unfolding class_by
unplaced c i broken = refl
unplaced c i (shut [] e) = refl
unplaced c i (shut (r ∷ rs) e) = go (some_true (class_marks c (r ∷ rs)))
  where
    go : (x : Bool) → class_is (class_token x (class_marks c (r ∷ rs)) 0 e) ≡ class_is (class_token x (class_marks c (r ∷ rs)) i e)
    go true = refl
    go false = refl

pub class-none : (m : Mode) (s : List ℕ) (i : ℕ) → length s ≤ i → no_class ≡ class_at m s i
unfolding class_at bracket
class-none Lake s i h = let k : length s ≤ suc i = omega arith in rw (drop_of_length-le s k)
class-none Plain s i h = let k : length s ≤ suc i = omega arith in rw (drop_of_length-le s k)

at_suc : (s : List ℕ) (i : ℕ) → get_or (drop (suc i) s) 0 256 ≡ get_or s (i + 1) 256
at_suc s i = first-at s (suc i) ∙ ap (λ (j : ℕ). get_or s j 256) (sym (add-one i))

same_place : (s : List ℕ) (i a b : ℕ) → a ≡ b → body 93 listed 0 a (drop b s) ≡ body 93 listed 0 b (drop b s)
same_place s i a b e = ap (λ (x : ℕ). body 93 listed 0 x (drop b s)) e

caret-go : (m : Mode) (i : ℕ) (l : List ℕ) → caret_at m (get_or l 0 256) ≡ true → bracket m i l ≡ class_by true i (body 93 listed 0 (i + 2) (drop 1 l))
unfolding bracket
caret-go Plain i l e = let z : ◌≡◌ {A = ℕ} 0 1 = cc in absurd (omega arith)
caret-go Lake i [] e = let z : ◌≡◌ {A = ℕ} 0 1 = cc in absurd (omega arith)
caret-go Lake i (b ∷ l) e = rw (bracket, e) (ap (λ (n : ℕ). class_by true i (body 93 listed 0 n l)) (omega arith))

pub class-caret : (m : Mode) (s : List ℕ) (i : ℕ) → caret_at m (get_or s (i + 1) 256) ≡ true → class_is (class_by true 0 (rest s (i + 1 + 1))) ≡ class_at m s i
unfolding class_at
class-caret m s i e =
    unplaced true i (rest s (i + 1 + 1))
    ∙ sym (ap class_is (
    caret-go m i (drop (suc i) s) (ap (λ (x : ℕ). caret_at m x) (at_suc s i) ∙ e)
    ∙ ap (λ (l : List ℕ). class_by true i (body 93 listed 0 (i + 2) l)) (drop-drop 1 (suc i) s)
    ∙ place (i + 2) (suc i + 1) (i + 1 + 1) (omega arith) (omega arith)))
  where
    place : (a b c : ℕ) → a ≡ c → b ≡ c → class_by true i (body 93 listed 0 a (drop b s)) ≡ class_by true i (rest s c)
    place a b c x y = rw (x, y)

raw-go : (m : Mode) (i : ℕ) (l : List ℕ) → caret_at m (get_or l 0 256) ≡ false → bracket m i l ≡ class_by false i (body 93 listed 0 (suc i) l)
unfolding bracket body class_by
raw-go Plain i [] e = refl
raw-go Lake i [] e = refl
raw-go Plain i (b ∷ l) e = refl
raw-go Lake i (b ∷ l) e = rw (bracket, e)

pub class-raw : (m : Mode) (s : List ℕ) (i : ℕ) → caret_at m (get_or s (i + 1) 256) ≡ false → class_is (class_by false 0 (rest s (i + 1))) ≡ class_at m s i
unfolding class_at
class-raw m s i e =
    unplaced false i (rest s (i + 1))
    ∙ ap (λ (n : ℕ). class_is (class_by false i (rest s n))) (add-one i)
    ∙ sym (ap class_is (raw-go m i (drop (suc i) s) (ap (λ (x : ℕ). caret_at m x) (at_suc s i) ∙ e)))

-- a caret lies in the text
pub caret-inside : (m : Mode) (s : List ℕ) (i : ℕ) → caret_at m (get_or s i 256) ≡ true → i < length s
caret-inside Plain s i e = let z : ◌≡◌ {A = ℕ} 0 1 = cc in absurd (omega arith)
caret-inside Lake s i e = inside s i 94 (eqb-true (get_or s i 256) 94 e) (omega arith)

-- ── the token ──
abbrev Plainly : ℕ → spec.Token → Type 0
Plainly i t =
    ((class_is t).next ≡ 0 → coded (bad_at i) ≡ coded t)
    × (((class_is t).next ≡ 0 → ⊥) → made kind.Class i (class_is t).next 0 ≡ coded t)

bad-plainly : (i : ℕ) → Plainly i (bad_at i)
bad-plainly i = ((λ z. refl), (λ z. absurd (z refl)))

marked-plainly : (x : Bool) (l : List Bool) (i e : ℕ) → 0 < e → Plainly i (class_token x l i e)
marked-plainly true l i e h = ((λ z. absurd (omega arith)), (λ z. refl))
marked-plainly false l i e h = bad-plainly i

class-plainly : (c : Bool) (i : ℕ) (o : Body) (a n : ℕ) → Ended o a n → Plainly i (class_by c i o)
unfolding class_by
class-plainly c i broken a n h = bad-plainly i
class-plainly c i (shut [] e) a n h = bad-plainly i
class-plainly c i (shut (r ∷ rs) e) a n h = marked-plainly (some_true (class_marks c (r ∷ rs))) (class_marks c (r ∷ rs)) i e (omega (arith, h.0))

bracket-plainly : (m : Mode) (i : ℕ) (l : List ℕ) → Plainly i (bracket m i l)
unfolding bracket
bracket-plainly Plain i [] = bad-plainly i
bracket-plainly Lake i [] = bad-plainly i
bracket-plainly Plain i (b ∷ l) =
    class-plainly false i (body 93 listed 0 (suc i) (b ∷ l)) (suc i) (suc i + length (b ∷ l)) (body_ended 93 listed 0 (suc i) (b ∷ l) (suc i + length (b ∷ l)) (omega arith))
bracket-plainly Lake i (b ∷ l) =
    by-test (Plainly i) (eqb b 94) _ _
    (λ _. class-plainly true i (body 93 listed 0 (suc (suc i)) l) (suc (suc i)) (suc (suc i) + length l) (body_ended 93 listed 0 (suc (suc i)) l (suc (suc i) + length l) (omega arith)))
    (class-plainly false i (body 93 listed 0 (suc i) (b ∷ l)) (suc i) (suc i + length (b ∷ l)) (body_ended 93 listed 0 (suc i) (b ∷ l) (suc i + length (b ∷ l)) (omega arith)))

module _ (m : Mode) (s : List ℕ) (i : ℕ) where
  pub token-bad : no_class ≡ class_at m s i → coded (bad_at i) ≡ coded (bracket m i (drop (suc i) s))
  unfolding class_at
  token-bad e = (bracket-plainly m i (drop (suc i) s)).0 (sym (ap (λ (x : Class). x.next) e))

  pub token-class : (new : List Bool) (n : ℕ) → 0 < n → class_here new n ≡ class_at m s i → made kind.Class i n 0 ≡ coded (bracket m i (drop (suc i) s))
  unfolding class_at
  token-class new n h e =
      let f : n ≡ (class_is (bracket m i (drop (suc i) s))).next = ap (λ (x : Class). x.next) e in
      ap (λ (x : ℕ). made kind.Class i x 0) f ∙ (bracket-plainly m i (drop (suc i) s)).1 (λ z. omega (arith, z, f))
