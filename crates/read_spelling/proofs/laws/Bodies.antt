-- Literals, classes, names and blanks: the loops give what `Spelling` says, both ways. Assumes nothing.
use Prim.Native.Nat.{ℕ, zero, suc, ◌+◌, ◌<◌}
use Rattle.std.specs.Prelude.{◌≡◌, Bool, true, false, not, ◌||◌, ◌⊎◌, ◌↔◌, eqb, length, drop, get_or}
use Rattle.std.proofs.Math.Path.{refl, sym, ap}
use Rattle.std.proofs.Common.{ap₂, subst, ◌∙◌, inl, inr, arith, zero-add, drop-drop, ext_get_or, eqb-true, eq-eqb, ne_eqb}
use Rattle.std.proofs.lemmas.Bool.{false≢true, eqb-false}
use mathlib.Core.List.{List, [], ◌∷◌, map}
use Rattle.read_tokens.specs.Kinds.{kind_at, one_of, ranges}
use Rattle.read_tokens.specs.Chars as chars
use Rattle.read_tokens.specs.Chars.{Range, Body, shut, broken, also, by_width, shut_by, body}
use Rattle.read_tokens.specs.Tokens.{blank_by, skip, name_byte, name_span, within, among, some_true, turned, class_marks}
use Rattle.read_spelling.specs.Spelling.{OneOf, HeadIs, blank_bytes, line_ends, NameByte, Run, stop, go, Blanks, none_more, blank, comment, Skips, Spells, itself, escaped, three, two, one, ItemSpelt, alone, ranged, UpTo, closed, more, InItems, Marks}
use Rattle.read_tokens.specs.laws.Bytes.{Bytes, bytes_drop}
use Rattle.read_tokens.specs.laws.Marks.{table_at, table-length}
use Rattle.read_tokens.specs.laws.Passing.{passes}
use Rattle.read_spelling.proofs.laws.Spells.{in-true, true-in, name-true, true-name, kind-blank, blank-kind, kind-hash, one_test, one-true, one-false, each-one, Turn}

pub never : {A : Type 0} → false ≡ true → A
never e = absurd (false≢true e)

-- ── what is spelled is a front part of the text ──
abbrev pub Cut : List ℕ → List ℕ → Type 0
Cut l r = (n : ℕ) × (drop n l ≡ r) × (n + length r ≡ length l)

pub cut-none : (l : List ℕ) → Cut l l
cut-none l = (0, refl, omega arith)

pub cut-byte : (b : ℕ) {l r : List ℕ} → Cut l r → Cut (b ∷ l) r
cut-byte b c = (suc c.0, c.1, omega (arith, c.2))

pub cut-then : {l k r : List ℕ} → Cut l k → Cut k r → Cut l r
cut-then {l} c d = (c.0 + d.0, sym (drop-drop d.0 c.0 l) ∙ ap (drop d.0) c.1 ∙ d.1, omega (arith, c.2, d.2))

spells-cut : {b : ℕ} {l r : List ℕ} → Spells b l r → Cut l r
spells-cut (itself n) = (1, refl, omega arith)
spells-cut (escaped n) = (2, refl, omega arith)
spells-cut (three n i j k) = (4, refl, omega arith)
spells-cut (two i j n) = (3, refl, omega arith)
spells-cut (one i n) = (2, refl, omega arith)

item-cut : {x : Range} {l r : List ℕ} → ItemSpelt x l r → Cut l r
item-cut (alone s n) = spells-cut s
item-cut (ranged s t n) = let c = spells-cut s in cut-then c (cut-then (1, refl, omega arith) (spells-cut t))

pub run-cut : {P : ℕ → Type 0} {w l r : List ℕ} → Run P w l r → Cut l r
run-cut (stop {r = r} n) = cut-none r
run-cut (go {b = b} p u) = cut-byte b (run-cut u)

pub run_length : {P : ℕ → Type 0} {w l r : List ℕ} → Run P w l r → length w + length r ≡ length l
run_length (stop {r = r} n) = omega arith
run_length (go {b = b} p u) = omega (arith, run_length u)

pub blanks-cut : {l r : List ℕ} → Blanks l r → Cut l r
blanks-cut (none_more {r = r}) = cut-none r
blanks-cut (blank {b = b} h u) = cut-byte b (blanks-cut u)
blanks-cut (comment w u) = cut-byte 35 (cut-then (run-cut w) (blanks-cut u))

-- ── up to the closing byte ──
module _ (close : ℕ) {A : Type 0} (One : A → List ℕ → List ℕ → Type 0) where
  upto-cut : ((x : A) (l r : List ℕ) → One x l r → Cut l r) → {xs : List A} {l r : List ℕ} → UpTo close One xs l r → Cut l r
  upto-cut c (closed {r = r}) = (1, refl, omega arith)
  upto-cut c (more {x = x} {l = l} {k = k} n o u) = cut-then (c x l k o) (upto-cut c u)

  module _ (step : List ℕ → chars.Item) (f : A → Range) where
    abbrev pub Closed : List ℕ → ℕ → Body → Type 0
    Closed l t (shut rs e) = (xs : List A) × (r : List ℕ) × UpTo close One xs l r × (rs ≡ map f xs) × (e + length r ≡ t)
    Closed l t broken = Unit {0}

    also-closed : (b t : ℕ) (l k : List ℕ) (s : Range) (x : A) → s ≡ f x → ¬ (b ≡ close) → One x (b ∷ l) k → (o : Body) → Closed k t o → Closed (b ∷ l) t (also s o)
    also-closed b t l k s x e n h (shut rs end) c = (x ∷ c.0, c.1, more n h c.2, ap₂ (λ (y : Range) (ys : List Range). y ∷ ys) e c.3, c.4)
    also-closed b t l k s x e n h broken c = tt

    pub body-sound :
        ((l : List ℕ) → Bytes l → 0 < (step l).width → (x : A) × ((step l).span ≡ f x) × One x l (drop (step l).width l)) → (k at t : ℕ) (l : List ℕ) → Bytes l → t ≡ at + length l
        → Closed (drop k l) t (body close step k at l)
    unfolding body
    body-sound s zero at t [] h e = tt
    body-sound s (suc k) at t [] h e = tt
    body-sound s zero at t (b ∷ l) h e = turn (eqb b close) refl (λ n. body-sound s n (suc at) t l h.1 (omega arith))
      where
        wide : (w : ℕ) → (step (b ∷ l)).width ≡ w → ¬ (b ≡ close) → ((n : ℕ) → Closed (drop n l) t (body close step n (suc at) l))
            → Closed (b ∷ l) t (by_width w (step (b ∷ l)).span (λ n. body close step n (suc at) l))
        wide zero q n c = tt
        wide (suc w) q n c =
            let o = s (b ∷ l) h (omega arith) in
            also-closed b t l (drop w l) (step (b ∷ l)).span o.0 o.1 n (subst (λ (v : ℕ). One o.0 (b ∷ l) (drop v (b ∷ l))) q o.2) (body close step w (suc at) l) (c w)

        turn : (x : Bool) → eqb b close ≡ x → ((n : ℕ) → Closed (drop n l) t (body close step n (suc at) l))
            → Closed (b ∷ l) t (shut_by x at (step (b ∷ l)) (λ n. body close step n (suc at) l))
        turn true q c = ([], l, subst (λ (j : ℕ). UpTo close One [] (j ∷ l) l) (sym (eqb-true b close q)) closed, refl, omega arith)
        turn false q c = wide (step (b ∷ l)).width refl (eqb-false b close q) c
    body-sound s (suc k) at t (b ∷ l) h e = body-sound s k (suc at) t l h.1 (omega arith)

    turned-once : (b at w : ℕ) (l : List ℕ) (x : Range) → ¬ (b ≡ close) → step (b ∷ l) ≡ record { span = x; width = suc w }
        → body close step 0 at (b ∷ l) ≡ also x (body close step 0 (suc at + w) (drop w l))
    unfolding body
    turned-once b at w l x n e =
        ap (λ (y : Bool). shut_by y at (step (b ∷ l)) (λ j. body close step j (suc at) l)) (ne_eqb b close n)
        ∙ ap (λ (i : chars.Item). by_width i.width i.span (λ j. body close step j (suc at) l)) e
        ∙ ap (also x) (passes close step w (suc at) l)

    pub body-complete :
        (step []).width ≡ 0 → ((x : A) (l r : List ℕ) → One x l r → Bytes l → Turn step l (f x) r) → {xs : List A} {l r : List ℕ} → UpTo close One xs l r → Bytes l → (at : ℕ)
        → (e : ℕ) × (body close step 0 at l ≡ shut (map f xs) e) × (e + length r ≡ at + length l)
    unfolding body
    body-complete z c (closed {r = r}) h at = (suc at, ap (λ (y : Bool). shut_by y at (step (close ∷ r)) (λ j. body close step j (suc at) r)) (eq-eqb close close refl), omega arith)
    body-complete z c (more {x = x} {l = []} {k = k} n o u) h at = let g = c x [] k o h in absurd (omega (arith, sym z ∙ ap (λ (i : chars.Item). i.width) g.1))
    body-complete z c (more {x = x} {xs = xs} {l = b ∷ l} {k = k} n o u) h at =
        let g = c x (b ∷ l) k o h in
        let i = body-complete z c u (subst Bytes g.2 (bytes_drop (suc g.0) (b ∷ l) h)) (suc at + g.0) in
        (i.0, turned-once b at g.0 l (f x) n g.1 ∙ ap (λ (y : List ℕ). also (f x) (body close step 0 (suc at + g.0) y)) g.2 ∙ ap (also (f x)) i.1, omega (arith, i.2, g.3))

pub literal-cut : (q : ℕ) {bs l r : List ℕ} → UpTo q Spells bs l r → Cut l r
literal-cut q u = upto-cut q Spells (λ b l r s. spells-cut s) u

pub class-cut : {xs : List Range} {l r : List ℕ} → UpTo 93 ItemSpelt xs l r → Cut l r
class-cut u = upto-cut 93 ItemSpelt (λ x l r s. item-cut s) u

-- ── names ──
pub span_run : (l : List ℕ) → Bytes l → Run NameByte (name_span l) l (drop (length (name_span l)) l)
unfolding name_span
span_run [] h = stop (λ f. f)
span_run (b ∷ l) h = pick (name_byte b) refl (span_run l h.1)
  where
    pick : (x : Bool) → name_byte b ≡ x → Run NameByte (name_span l) l (drop (length (name_span l)) l)
        → (let w : List ℕ = elim x [ true ↦ b ∷ name_span l | false ↦ [] ] in Run NameByte w (b ∷ l) (drop (length w) (b ∷ l)))
    pick true e u = go (name-true b h.0 e) u
    pick false e u = stop (λ p. never (sym e ∙ true-name b p))

not-name : (b : ℕ) → b < 256 → ¬ NameByte b → name_byte b ≡ false
not-name b h n = pick (name_byte b) refl
  where
    pick : (x : Bool) → name_byte b ≡ x → x ≡ false
    pick true e = absurd (n (name-true b h e))
    pick false e = refl

pub run-span : {w l r : List ℕ} → Run NameByte w l r → Bytes l → name_span l ≡ w
unfolding name_span
run-span (stop {r = []} n) h = refl
run-span (stop {r = b ∷ r} n) h = rw (name_span, not-name b h.0 n)
run-span (go {b = b} p u) h = rw (name_span, true-name b p) (ap (λ (w : List ℕ). b ∷ w) (run-span u h.1))

-- ── marks ──
among-true : (b : ℕ) (rs : List Range) → among b rs ≡ true → InItems rs b
unfolding among
among-true b [] e = never e
among-true b (r ∷ rs) e = pick (within b r) refl e (among-true b rs)
  where
    pick : (x : Bool) → within b r ≡ x → (x || among b rs) ≡ true → (among b rs ≡ true → InItems rs b) → InItems (r ∷ rs) b
    pick true f g h = inl (in-true r.lo r.hi b f)
    pick false f g h = inr (h g)

or_right : (a b : Bool) → b ≡ true → (a || b) ≡ true
or_right true b e = refl
or_right false b e = e

true-among : (b : ℕ) (rs : List Range) → InItems rs b → among b rs ≡ true
unfolding among
true-among b [] h = absurd h
true-among b (r ∷ rs) (inl h) = ap (λ (x : Bool). x || among b rs) (true-in r.lo r.hi b h)
true-among b (r ∷ rs) (inr h) = or_right (within b r) (among b rs) (true-among b rs h)

-- the listed bytes, or the others
abbrev pub Inside : Bool → List Range → ℕ → Type 0
Inside true rs b = ¬ InItems rs b
Inside false rs b = InItems rs b

turned-is : (c : Bool) (rs : List Range) (b : ℕ) → (turned c (among b rs) ≡ true) ↔ Inside c rs b
turned-is true rs b = (λ e h. never (sym (ap not (true-among b rs h)) ∙ e), λ n. pick (among b rs) refl n)
  where
    pick : (x : Bool) → among b rs ≡ x → ¬ InItems rs b → not x ≡ true
    pick true e n = absurd (n (among-true b rs e))
    pick false e n = refl
turned-is false rs b = (among-true b rs, true-among b rs)

mark-at : (c : Bool) (rs : List Range) (b : ℕ) → b < 256 → get_or (class_marks c rs) b false ≡ turned c (among b rs)
unfolding class_marks
mark-at c rs b h = table_at (λ b. turned c (among b rs)) 0 256 b h ∙ ap (λ (x : ℕ). turned c (among x rs)) (zero-add b)

mark-is : (c : Bool) (rs : List Range) (b : ℕ) → b < 256 → (get_or (class_marks c rs) b false ≡ true) ↔ Inside c rs b
mark-is c rs b h = let e = mark-at c rs b h in let t = turned-is c rs b in (λ g. t.0 (sym e ∙ g), λ i. e ∙ t.1 i)

marks-all : (c : Bool) (rs : List Range) → length (class_marks c rs) ≡ 256
unfolding class_marks
marks-all c rs = table-length (λ b. turned c (among b rs)) 0 256

some-mark : (l : List Bool) → some_true l ≡ true → (b : ℕ) × (b < length l) × (get_or l b false ≡ true)
unfolding some_true
some-mark [] e = never e
some-mark (true ∷ l) e = (0, omega arith, refl)
some-mark (false ∷ l) e = let m = some-mark l e in (suc m.0, omega (arith, m.1), m.2)

mark-some : (l : List Bool) (b : ℕ) → get_or l b false ≡ true → some_true l ≡ true
unfolding some_true
mark-some [] b e = e
mark-some (x ∷ l) zero e = ap (λ (y : Bool). y || some_true l) e
mark-some (x ∷ l) (suc b) e = or_right x (some_true l) (mark-some l b e)

pub marks-sound : (c : Bool) (rs : List Range) → some_true (class_marks c rs) ≡ true → Marks (Inside c rs) (class_marks c rs)
marks-sound c rs e =
    let m = some-mark (class_marks c rs) e in
    let h : m.0 < 256 = omega (arith, m.1, marks-all c rs) in
    record { all = marks-all c rs; exact = mark-is c rs; some_byte = (m.0, h, (mark-is c rs m.0 h).0 m.2) }

same_true : (x y : Bool) (P : Type 0) → (x ≡ true) ↔ P → (y ≡ true) ↔ P → x ≡ y
same_true true y P h k = sym (k.1 (h.0 refl))
same_true false true P h k = h.1 (k.0 refl)
same_true false false P h k = refl

pub marks-complete : (c : Bool) (rs : List Range) (k : List Bool) → Marks (Inside c rs) k → (some_true (class_marks c rs) ≡ true) × (class_marks c rs ≡ k)
marks-complete c rs k m =
    let b : ℕ = m.some_byte.0 in (
      mark-some (class_marks c rs) b ((mark-is c rs b m.some_byte.1).1 m.some_byte.2),
      ext_get_or false (class_marks c rs) k (marks-all c rs ∙ sym m.all)
          (λ i h.
          let j : i < 256 = omega (arith, h, marks-all c rs) in
          same_true (get_or (class_marks c rs) i false) (get_or k i false) (Inside c rs i) (mark-is c rs i j) (m.exact i j)),
    )

-- ── blanks ──
abbrev InLine : ℕ → Type 0
InLine b = ¬ OneOf line_ends b

abbrev pub Skipped : ℕ → List ℕ → List ℕ → ℕ → Type 0
Skipped at l r i = Skips l r × (i + length r ≡ at + length l)

-- in a comment: the rest of the line first
abbrev SkippedIn : Bool → ℕ → List ℕ → List ℕ → ℕ → Type 0
SkippedIn false at l r i = Skipped at l r i
SkippedIn true at l r i = (w : List ℕ) × (k : List ℕ) × Run InLine w l k × Skips k r × (i + length r ≡ at + length l)

-- how blanks go on at a byte
blank-0 : (b : ℕ) → OneOf blank_bytes b → blank_by false b ≡ 0
blank-0 b h = rw (blank_by, blank-kind b h)

hash-1 : (b : ℕ) → b ≡ 35 → blank_by false b ≡ 1
unfolding kind_at one_of ranges
hash-1 b e = ap (blank_by false) e

abbrev How : ℕ → Type 0
How b = OneOf blank_bytes b ⊎ (b ≡ 35) ⊎ (blank_by false b ≡ 2)

how : (b : ℕ) → b < 256 → How b
how b h = pick (eqb (kind_at b) 1) (eqb (kind_at b) 4) refl refl
  where
    pick : (x y : Bool) → eqb (kind_at b) 1 ≡ x → eqb (kind_at b) 4 ≡ y → How b
    pick true y e f = inl (kind-blank b h (eqb-true (kind_at b) 1 e))
    pick false true e f = inr (inl (kind-hash b h (eqb-true (kind_at b) 4 f)))
    pick false false e f = inr (inr (rw (blank_by, e, f)))

line-0 : (b : ℕ) → OneOf line_ends b → blank_by true b ≡ 0
line-0 b h = eqb-true (blank_by true b) 0 (each-one line_ends (λ b. eqb (blank_by true b) 0) tt b h)

line-1 : (b : ℕ) → InLine b → blank_by true b ≡ 1
line-1 b n = rw (blank_by, ne_eqb b 10 (not_end 10 refl), ne_eqb b 13 (not_end 13 refl))
  where
    not_end : (c : ℕ) → one_test line_ends c ≡ true → ¬ (b ≡ c)
    not_end c t e = n (subst (OneOf line_ends) (sym e) (one-true line_ends c t))

line : (b : ℕ) → OneOf line_ends b ⊎ InLine b
line b = pick (one_test line_ends b) refl
  where
    pick : (x : Bool) → one_test line_ends b ≡ x → OneOf line_ends b ⊎ InLine b
    pick true e = inl (one-true line_ends b e)
    pick false e = inr (one-false line_ends b e)

line-blank : (b : ℕ) → OneOf line_ends b → OneOf blank_bytes b
line-blank b h = one-true blank_bytes b (each-one line_ends (one_test blank_bytes) tt b h)

-- one byte of blanks
skip-on : (x : Bool) (at b n : ℕ) (l : List ℕ) → blank_by x b ≡ n → skip x at (b ∷ l) ≡ elim (eqb n 2) [ true ↦ at | false ↦ skip (eqb n 1) (suc at) l ]
unfolding skip
skip-on x at b n l e = ap (λ (j : ℕ). elim (eqb j 2) as (λ _. ℕ) [ true ↦ at | false ↦ skip (eqb j 1) (suc at) l ]) e

pub skip-sound : (x : Bool) (at : ℕ) (l : List ℕ) → Bytes l → (r : List ℕ) × SkippedIn x at l r (skip x at l)
unfolding skip
skip-sound false at [] h = ([], ((none_more, λ f. f), omega arith))
skip-sound true at [] h = ([], ([], [], stop (λ f. f), (none_more, λ f. f), omega arith))
skip-sound false at (b ∷ l) h = pick (how b h.0) (skip-sound false (suc at) l h.1) (skip-sound true (suc at) l h.1)
  where
    pick : How b → (r : List ℕ) × SkippedIn false (suc at) l r (skip false (suc at) l) → (r : List ℕ) × SkippedIn true (suc at) l r (skip true (suc at) l)
        → (r : List ℕ) × SkippedIn false at (b ∷ l) r (skip false at (b ∷ l))
    pick (inl e) s t = (s.0, ((blank e s.1.0.0, s.1.0.1), omega (arith, skip-on false at b 0 l (blank-0 b e), s.1.1)))
    pick (inr (inl e)) s t =
        let u = t.1 in
        (t.0, ((subst (λ (j : ℕ). Blanks (j ∷ l) t.0) (sym e) (comment u.2 u.3.0), u.3.1), omega (arith, skip-on false at b 1 l (hash-1 b e), u.4)))
    pick (inr (inr e)) s t = (b ∷ l, ((none_more, stays), omega (arith, skip-on false at b 2 l e)))
      where
        stays : OneOf blank_bytes b ⊎ (b ≡ 35) → ⊥
        stays (inl f) = omega (arith, sym (blank-0 b f) ∙ e)
        stays (inr f) = omega (arith, sym (hash-1 b f) ∙ e)
skip-sound true at (b ∷ l) h = pick (line b) (skip-sound false (suc at) l h.1) (skip-sound true (suc at) l h.1)
  where
    pick : OneOf line_ends b ⊎ InLine b → (r : List ℕ) × SkippedIn false (suc at) l r (skip false (suc at) l) → (r : List ℕ) × SkippedIn true (suc at) l r (skip true (suc at) l)
        → (r : List ℕ) × SkippedIn true at (b ∷ l) r (skip true at (b ∷ l))
    pick (inl e) s t =
        (s.0, ([], b ∷ l, stop {r = b ∷ l} (λ n. n e), (blank (line-blank b e) s.1.0.0, s.1.0.1), omega (arith, skip-on true at b 0 l (line-0 b e), s.1.1)))
    pick (inr n) s t = let u = t.1 in (t.0, (b ∷ u.0, u.1, go n u.2, u.3, omega (arith, skip-on true at b 1 l (line-1 b n), u.4)))

run-skip : {w l k : List ℕ} → Run InLine w l k → (at : ℕ) → skip true at l ≡ skip false (at + length w) k
unfolding skip
run-skip (stop {r = []} n) at = omega arith
run-skip (stop {r = b ∷ r} n) at = pick (line b)
  where
    pick : OneOf line_ends b ⊎ InLine b → skip true at (b ∷ r) ≡ skip false (at + 0) (b ∷ r)
    pick (inl e) =
        skip-on true at b 0 r (line-0 b e)
        ∙ ap (λ (j : ℕ). skip false j r) (omega arith)
        ∙ sym (skip-on false (at + 0) b 0 r (blank-0 b (line-blank b e)))
    pick (inr m) = absurd (n m)
run-skip (go {b = b} {w = w} {l = l} {r = k} n u) at =
    skip-on true at b 1 l (line-1 b n) ∙ run-skip u (suc at) ∙ ap (λ (j : ℕ). skip false j k) (omega arith)

pub skip-complete : {l r : List ℕ} → Blanks l r → Bytes l → ¬ HeadIs (λ (b : ℕ). OneOf blank_bytes b ⊎ (b ≡ 35)) r → (at : ℕ) → skip false at l + length r ≡ at + length l
unfolding skip
skip-complete (none_more {r = []}) h n at = omega arith
skip-complete (none_more {r = b ∷ r}) h n at = pick (how b h.0)
  where
    pick : How b → skip false at (b ∷ r) + suc (length r) ≡ at + suc (length r)
    pick (inl e) = absurd (n (inl e))
    pick (inr (inl e)) = absurd (n (inr e))
    pick (inr (inr e)) = omega (arith, skip-on false at b 2 r e)
skip-complete (blank {b = b} {l = l} e u) h n at = omega (arith, skip-on false at b 0 l (blank-0 b e), skip-complete u h.1 n (suc at))
skip-complete (comment {w = w} {l = l} {k = k} v u) h n at =
    let c = run-cut v in
    let i = skip-complete u (subst Bytes c.1 (bytes_drop c.0 l h.1)) n (suc at + length w) in
    omega (arith, skip-on false at 35 1 l (hash-1 35 refl), run-skip v (suc at), run_length v, i)
