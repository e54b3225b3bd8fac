-- The loop reads the characters of a written literal, and the runs of a written class; and the runs have just the marked bytes. Assumes nothing.
use Rattle.std.specs.Prelude.{ℕ, zero, suc, ◌+◌, ◌≤◌, ◌<◌, ◌≡◌, refl, Bool, true, false, List, [], ◌∷◌, ◌++◌, map, eqb, leb, length}
use Rattle.std.proofs.Common.{sym, ap, ap₂, ◌∙◌, append_assoc, append-nil, arith, length-append, eqb-true, eq-eqb, le-leb}
use Rattle.std.proofs.Math.Bool.{and-false}
use Rattle.std.proofs.lemmas.Bool.{false≢true, lt-leb}
use Rattle.std.proofs.Math.Option.{Option, none, some}
use Rattle.std.proofs.Math.Seq.{drop-append_seam}
use Rattle.read_tokens.specs.Chars.{Char, Range, range, item, single, ranged, dashed, started, listed, Body, shut, also, body}
use Rattle.read_tokens.specs.Tokens.{low_of, within, among, table}
use Rattle.read_tokens.specs.laws.Bytes.{Bytes}
use Rattle.write_rules.specs.Writing.{lit_char, class_char, lit_chars, runs, run_text, runs_text}
use Rattle.write_rules.proofs.laws.Characters.{head_d, lit-char, lit-head, class-char, class-close, class-dash, class-caret, turn, ends}

-- literals
abbrev pub points : List ℕ → List Range
points [] = []
points (c ∷ l) = range c c ∷ points l

pub points-low : (l : List ℕ) → map low_of (points l) ≡ l
points-low [] = refl
points-low (c ∷ l) = ap (λ (x : List ℕ). c ∷ x) (points-low l)

lit-single : (c : ℕ) → c < 256 → (rest : List ℕ) → single (lit_char c ++ rest) ≡ item c c (length (lit_char c))
unfolding single
lit-single c h rest = ap (λ (x : Char). item x.byte x.byte x.width) (lit-char c h rest)

pub lit-body : (l rest : List ℕ) (at : ℕ) → Bytes l → body 39 single 0 at (lit_chars l ++ (39 ∷ rest)) ≡ shut (points l) (suc (at + length (lit_chars l)))
unfolding lit_chars
lit-body [] rest at h = ends 39 single rest at ∙ ap (λ (n : ℕ). shut [] n) (omega arith)
lit-body (c ∷ l) rest at h =
    rw (append_assoc (lit_char c) (lit_chars l) (39 ∷ rest), length-append (lit_char c) (lit_chars l))
    (turn 39 single (lit_char c) (lit_chars l ++ (39 ∷ rest)) at c c (lit-head c h.0) (lit-single c h.0 _)
    ∙ ap (λ (o : Body). also (range c c) o) (lit-body l rest (at + length (lit_char c)) h.1)
    ∙ ap (λ (n : ℕ). shut (range c c ∷ points l) (suc n)) (omega arith))

-- classes
pub record Fine (r : Range) : Type 0 where
  pub order : r.lo ≤ r.hi
  pub small : r.hi < 256

abbrev pub AllFine : List Range → Type 0
AllFine [] = Unit {0}
AllFine (r ∷ rs) = Fine r × AllFine rs

-- a rest that makes no range of the character before it
abbrev NoDash : List ℕ → Type 0
NoDash l = eqb (head_d 93 l) 45 ≡ false

dashed-no : (a n : ℕ) (l : List ℕ) → NoDash l → dashed a n l ≡ item a a n
unfolding dashed
dashed-no a n [] h = refl
dashed-no a n (b ∷ l) h = rw (dashed, h)

started-some : (a : ℕ) (w l : List ℕ) (d : ℕ) → eqb (head_d d w) d ≡ false → started a (length w) (w ++ l) ≡ dashed a (length w) l
started-some a [] l d h = absurd (false≢true (sym h ∙ eq-eqb d d refl))
started-some a (b ∷ w) l d h = ap (λ (x : List ℕ). dashed a (suc (length w)) x) (drop-append_seam w l)

listed-from : (c : ℕ) → c < 256 → (rest : List ℕ) → listed (class_char c ++ rest) ≡ dashed c (length (class_char c)) rest
unfolding listed
listed-from c h rest =
    ap (λ (x : Char). started x.byte x.width (class_char c ++ rest)) (class-char c h rest) ∙ started-some c (class_char c) rest 93 (class-close c h)

ranged-some : (a n b : ℕ) (w : List ℕ) (d : ℕ) → eqb (head_d d w) d ≡ false → a ≤ b → ranged a n b (length w) ≡ item a b (n + 1 + length w)
ranged-some a n b [] d h k = absurd (false≢true (sym h ∙ eq-eqb d d refl))
ranged-some a n b (x ∷ w) d h k = rw (le-leb a b k)

dashed-yes : (a n b : ℕ) → b < 256 → (rest : List ℕ) → a ≤ b → dashed a n (45 ∷ (class_char b ++ rest)) ≡ item a b (n + 1 + length (class_char b))
unfolding dashed
dashed-yes a n b h rest k = ap (λ (x : Char). ranged a n x.byte x.width) (class-char b h rest) ∙ ranged-some a n b (class_char b) 93 (class-close b h) k

head-append : (d : ℕ) (w l : List ℕ) (x : ℕ) → eqb (head_d d w) d ≡ false → head_d x (w ++ l) ≡ head_d d w
head-append d [] l x h = absurd (false≢true (sym h ∙ eq-eqb d d refl))
head-append d (b ∷ w) l x h = refl

run-listed : (r : Range) → Fine r → (rest : List ℕ) → NoDash rest → listed (run_text r ++ rest) ≡ item r.lo r.hi (length (run_text r))
unfolding run_text
run-listed r f rest n = go (eqb r.lo r.hi) refl
  where
    go : (x : Bool) → eqb r.lo r.hi ≡ x → listed (run_text r ++ rest) ≡ item r.lo r.hi (length (run_text r))
    go true e =
        let q : r.lo ≡ r.hi = eqb-true r.lo r.hi e in
        rw (run_text, e) (listed-from r.lo (omega (arith, f.order, f.small)) rest ∙ dashed-no r.lo (length (class_char r.lo)) rest n ∙ ap (λ (x : ℕ). item r.lo x (length (class_char r.lo))) q)
    go false e =
        rw (run_text, e, append_assoc (class_char r.lo) (45 ∷ class_char r.hi) rest, length-append (class_char r.lo) (45 ∷ class_char r.hi))
        (listed-from r.lo (omega (arith, f.order, f.small)) (45 ∷ (class_char r.hi ++ rest))
        ∙ dashed-yes r.lo (length (class_char r.lo)) r.hi f.small rest f.order
        ∙ ap (λ (n : ℕ). item r.lo r.hi n) (omega arith))

-- the first byte of a run's text is that of its first character
run-head : (r : Range) (d : ℕ) → Fine r → head_d d (run_text r) ≡ head_d 93 (class_char r.lo)
unfolding run_text
run-head r d f = go (eqb r.lo r.hi) refl
  where
    u : eqb (head_d 93 (class_char r.lo)) 93 ≡ false
    u = class-close r.lo (omega (arith, f.order, f.small))

    go : (x : Bool) → eqb r.lo r.hi ≡ x → head_d d (run_text r) ≡ head_d 93 (class_char r.lo)
    go true e = rw (run_text, e) (ap (λ (l : List ℕ). head_d d l) (sym (append-nil (class_char r.lo))) ∙ head-append 93 (class_char r.lo) [] d u)
    go false e = rw (run_text, e) (head-append 93 (class_char r.lo) (45 ∷ class_char r.hi) d u)

runs-no-dash : (rs : List Range) (rest : List ℕ) → AllFine rs → NoDash (runs_text rs ++ (93 ∷ rest))
unfolding runs_text
runs-no-dash [] rest h = refl
runs-no-dash (r ∷ rs) rest h =
    let u : r.lo < 256 = omega (arith, h.0.order, h.0.small) in
    let v : head_d 93 (run_text r) ≡ head_d 93 (class_char r.lo) = run-head r 93 h.0 in
    rw (append_assoc (run_text r) (runs_text rs) (93 ∷ rest), head-append 93 (run_text r) (runs_text rs ++ (93 ∷ rest)) 93 (rw v (class-close r.lo u)), v)
    (class-dash r.lo u)

pub runs-body : (rs : List Range) (rest : List ℕ) (at : ℕ) → AllFine rs → body 93 listed 0 at (runs_text rs ++ (93 ∷ rest)) ≡ shut rs (suc (at + length (runs_text rs)))
unfolding runs_text
runs-body [] rest at h = ends 93 listed rest at ∙ ap (λ (n : ℕ). shut [] n) (omega arith)
runs-body (r ∷ rs) rest at h =
    let u : r.lo < 256 = omega (arith, h.0.order, h.0.small) in
    rw (append_assoc (run_text r) (runs_text rs) (93 ∷ rest), length-append (run_text r) (runs_text rs))
    (turn 93 listed (run_text r) (runs_text rs ++ (93 ∷ rest)) at r.lo r.hi (rw (run-head r 93 h.0) (class-close r.lo u)) (run-listed r h.0 (runs_text rs ++ (93 ∷ rest)) (runs-no-dash rs rest h.1))
    ∙ ap (λ (o : Body). also r o) (runs-body rs rest (at + length (run_text r)) h.1)
    ∙ ap (λ (n : ℕ). shut (r ∷ rs) (suc n)) (omega arith))

-- a class's text does not begin with a `^`
pub runs-no-caret : (rs : List Range) (rest : List ℕ) → AllFine rs → eqb (head_d 93 (runs_text rs ++ (93 ∷ rest))) 94 ≡ false
unfolding runs_text
runs-no-caret [] rest h = refl
runs-no-caret (r ∷ rs) rest h =
    let u : r.lo < 256 = omega (arith, h.0.order, h.0.small) in
    let v : head_d 93 (run_text r) ≡ head_d 93 (class_char r.lo) = run-head r 93 h.0 in
    rw (append_assoc (run_text r) (runs_text rs) (93 ∷ rest), head-append 93 (run_text r) (runs_text rs ++ (93 ∷ rest)) 93 (rw v (class-close r.lo u)), v)
    (class-caret r.lo u)

-- the runs of marks: the open run ends just before the next mark
abbrev Until : Option Range → ℕ → Type 0
Until none i = Unit {0}
Until (some r) i = (r.lo ≤ r.hi) × (suc r.hi ≡ i)

pub runs-fine : (o : Option Range) (i : ℕ) (l : List Bool) → Until o i → i + length l ≤ 256 → AllFine (runs o i l)
unfolding runs
runs-fine none i [] u h = tt
runs-fine (some r) i [] u h = (record { order = u.0; small = omega (arith, u.1) }, tt)
runs-fine none i (false ∷ l) u h = runs-fine none (suc i) l tt (omega arith)
runs-fine none i (true ∷ l) u h = runs-fine (some (range i i)) (suc i) l (omega arith, refl) (omega arith)
runs-fine (some r) i (false ∷ l) u h = (record { order = u.0; small = omega (arith, u.1) }, runs-fine none (suc i) l tt (omega arith))
runs-fine (some r) i (true ∷ l) u h = runs-fine (some (range r.lo i)) (suc i) l (omega (arith, u.0, u.1), refl) (omega arith)

in-range : (b : ℕ) (r : Range) → r.lo ≤ b → b ≤ r.hi → within b r ≡ true
in-range b r h k = rw (le-leb r.lo b h, le-leb b r.hi k)

below : (b : ℕ) (r : Range) → b < r.lo → within b r ≡ false
below b r h = rw (lt-leb r.lo b h)

above : (b : ℕ) (r : Range) → r.hi < b → within b r ≡ false
above b r h = rw (lt-leb b r.hi h) (and-false (leb r.lo b))

-- what the open run has, the runs have; below the open run and the marks they have nothing
runs-keep : (r : Range) (i : ℕ) (l : List Bool) (b : ℕ) → suc r.hi ≡ i → r.lo ≤ b → b ≤ r.hi → among b (runs (some r) i l) ≡ true
unfolding runs among
runs-keep r i [] b e h k = rw (in-range b r h k)
runs-keep r i (false ∷ l) b e h k = rw (in-range b r h k)
runs-keep r i (true ∷ l) b e h k = runs-keep (range r.lo i) (suc i) l b refl h (omega arith)

abbrev Under : Option Range → ℕ → ℕ → Type 0
Under none i b = b < i
Under (some r) i b = (b < r.lo) × (r.lo ≤ i)

runs_none : (o : Option Range) (i : ℕ) (l : List Bool) (b : ℕ) → Under o i b → among b (runs o i l) ≡ false
unfolding runs among
runs_none none i [] b h = refl
runs_none (some r) i [] b h = rw (below b r h.0)
runs_none none i (false ∷ l) b h = runs_none none (suc i) l b (omega arith)
runs_none none i (true ∷ l) b h = runs_none (some (range i i)) (suc i) l b (h, omega arith)
runs_none (some r) i (false ∷ l) b h = rw (below b r h.0) (runs_none none (suc i) l b (omega (arith, h.0, h.1)))
runs_none (some r) i (true ∷ l) b h = runs_none (some (range r.lo i)) (suc i) l b (h.0, omega (arith, h.1))

table_same : (f g : ℕ → Bool) (i n : ℕ) → ((b : ℕ) → i ≤ b → f b ≡ g b) → table f i n ≡ table g i n
unfolding table
table_same f g i zero h = refl
table_same f g i (suc n) h = ap₂ (λ (x : Bool) (l : List Bool). x ∷ l) (h i (omega arith)) (table_same f g (suc i) n (λ b k. h b (omega arith)))

passed : (r : Range) (rs : List Range) (b : ℕ) → r.hi < b → among b (r ∷ rs) ≡ among b rs
unfolding among
passed r rs b h = rw (above b r h)

pub runs-table : (o : Option Range) (i : ℕ) (l : List Bool) → Until o i → table (λ b. among b (runs o i l)) i (length l) ≡ l
unfolding table runs
runs-table none i [] u = refl
runs-table (some r) i [] u = refl
runs-table none i (false ∷ l) u = ap₂ (λ (x : Bool) (m : List Bool). x ∷ m) (runs_none none (suc i) l i (omega arith)) (runs-table none (suc i) l tt)
runs-table none i (true ∷ l) u =
    ap₂ (λ (x : Bool) (m : List Bool). x ∷ m) (runs-keep (range i i) (suc i) l i refl (omega arith) (omega arith)) (runs-table (some (range i i)) (suc i) l (omega arith, refl))
runs-table (some r) i (true ∷ l) u =
    ap₂ (λ (x : Bool) (m : List Bool). x ∷ m)
    (runs-keep (range r.lo i) (suc i) l i refl (omega (arith, u.0, u.1)) (omega arith))
    (runs-table (some (range r.lo i)) (suc i) l (omega (arith, u.0, u.1), refl))
runs-table (some r) i (false ∷ l) u =
    ap₂ (λ (x : Bool) (m : List Bool). x ∷ m)
    (passed r (runs none (suc i) l) i (omega (arith, u.1)) ∙ runs_none none (suc i) l i (omega arith))
    (table_same _ _ (suc i) (length l) (λ b k. passed r (runs none (suc i) l) b (omega (arith, u.1))) ∙ runs-table none (suc i) l tt)
