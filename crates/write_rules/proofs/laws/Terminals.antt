-- A written terminal, name or lake is read at its place as the token that it was written for, and the token ends right behind it. Assumes nothing.
use Rattle.std.specs.Prelude.{ℕ, suc, ◌+◌, ◌<◌, ◌≡◌, refl, Bool, true, false, List, [], ◌∷◌, ◌++◌, eqb, length, drop}
use Rattle.std.proofs.Common.{sym, ap, ap₂, ◌∙◌, append_assoc, arith, length-append, ne_eqb}
use Rattle.std.proofs.lemmas.Bool.{false≢true}
use Rattle.std.proofs.Math.Option.{none}
use Rattle.std.proofs.Math.Seq.{drop-append_seam}
use Rattle.read_tokens.specs.Kinds.{one_of, ranges, kind_at}
use Rattle.read_tokens.specs.declared.Mode.{Mode}
use Rattle.read_tokens.specs.declared.Mode.TheVariants.{Lake, Plain}
use Rattle.read_tokens.specs.Token.{Symbol, name, lake, Leaf, any, literal, class, symbol, leaf, arrow}
use Rattle.read_tokens.specs.Chars.{Range, single, listed, Body, shut, body}
use Rattle.read_tokens.specs.Tokens.{tok, skip, name_byte, name_span, lake_by, angle, literal_by, among, table, some_true, class_marks, class_token, class_by, bracket, by_kind, token_from, token_at}
use Rattle.read_tokens.specs.laws.Bytes.{Bytes}
use Rattle.read_tokens.specs.laws.Forward.{letter-name}
use Rattle.write_rules.specs.Writing.{lit_chars, runs, runs_text, leaf_text, symbol_text}
use Rattle.write_rules.proofs.laws.Characters.{head_d}
use Rattle.write_rules.proofs.laws.Bodies.{points-low, lit-body, runs-body, runs-no-caret, runs-fine, runs-table}

-- what can be written: bytes in literals that are not empty, 256 marks of which one is set
abbrev pub FineLeaf : Leaf → Type 0
FineLeaf any = Unit {0}
FineLeaf (literal []) = ⊥
FineLeaf (literal (c ∷ l)) = (c < 256) × Bytes l
FineLeaf (class l) = (length l ≡ 256) × (some_true l ≡ true)

abbrev pub AllName : List ℕ → Type 0
AllName [] = Unit {0}
AllName (b ∷ w) = (name_byte b ≡ true) × AllName w

abbrev pub FineName : List ℕ → Type 0
FineName [] = ⊥
FineName (b ∷ w) = (kind_at b ≡ 2) × AllName w

abbrev pub FineSymbol : Mode → Symbol → Type 0
FineSymbol m (name w) = FineName w
FineSymbol Plain (lake w) = ⊥
FineSymbol Lake (lake w) = FineName w

-- no name goes on here
abbrev pub Stops : List ℕ → Type 0
Stops [] = Unit {0}
Stops (b ∷ l) = name_byte b ≡ false

skip-none : (b : ℕ) (l : List ℕ) (at k : ℕ) → kind_at b ≡ k → eqb k 1 ≡ false → eqb k 4 ≡ false → skip false at (b ∷ l) ≡ at
unfolding skip
skip-none b l at k e f g = rw (skip, e, f, g)

-- the token at a place where its first byte stands
pub here : (m : Mode) (s : List ℕ) (at b : ℕ) (l : List ℕ) (k : ℕ) → drop at s ≡ b ∷ l → kind_at b ≡ k → eqb k 1 ≡ false → eqb k 4 ≡ false → token_at m s at ≡ by_kind k m b at l
unfolding token_at token_from
here m s at b l k d e f g = rw (d, skip-none b l at k e f g, d, e)

-- literals
literal-token : (m : Mode) (s : List ℕ) (at c : ℕ) (l rest : List ℕ) → c < 256 → Bytes l → drop at s ≡ leaf_text (literal (c ∷ l)) ++ rest
    → token_at m s at ≡ tok (leaf (literal (c ∷ l))) at (at + length (leaf_text (literal (c ∷ l))))
unfolding leaf_text by_kind literal_by kind_at one_of ranges
literal-token m s at c l rest h b d =
    let w = lit_chars (c ∷ l) in
    here m s at 39 ((w ++ (39 ∷ [])) ++ rest) 11 d refl refl refl
    ∙ ap (λ (x : List ℕ). literal_by at (body 39 single 0 (suc at) x)) (append_assoc w (39 ∷ []) rest)
    ∙ ap (λ (o : Body). literal_by at o) (lit-body (c ∷ l) rest (suc at) (h, b))
    ∙ ap₂ (λ (x : List ℕ) (n : ℕ). tok (leaf (literal x)) at n) (points-low (c ∷ l)) (rw (length-append w (39 ∷ [])) (omega arith))

-- classes
bracket-plain : (m : Mode) (i : ℕ) (l : List ℕ) → eqb (head_d 93 l) 94 ≡ false → bracket m i l ≡ class_by false i (body 93 listed 0 (suc i) l)
unfolding bracket class_by body
bracket-plain Plain i [] h = refl
bracket-plain Lake i [] h = refl
bracket-plain Plain i (b ∷ l) h = refl
bracket-plain Lake i (b ∷ l) h = rw (bracket, h)

class-marks : (l : List Bool) → length l ≡ 256 → class_marks false (runs none 0 l) ≡ l
unfolding class_marks
class-marks l h = ap (λ (n : ℕ). table (λ b. among b (runs none 0 l)) 0 n) (sym h) ∙ runs-table none 0 l tt

class-shut : (rs : List Range) (l : List Bool) (i e : ℕ) → class_marks false rs ≡ l → some_true l ≡ true → class_by false i (shut rs e) ≡ tok (leaf (class l)) i e
unfolding class_by class_marks table among some_true
class-shut [] l i e h t = absurd (false≢true (ap some_true h ∙ t))
class-shut (r ∷ rs) l i e h t = ap (λ (x : List Bool). class_token (some_true x) x i e) h ∙ ap (λ (x : Bool). class_token x l i e) t

class-token : (m : Mode) (s : List ℕ) (at : ℕ) (l : List Bool) (rest : List ℕ) → length l ≡ 256 → some_true l ≡ true → drop at s ≡ leaf_text (class l) ++ rest
    → token_at m s at ≡ tok (leaf (class l)) at (at + length (leaf_text (class l)))
unfolding leaf_text by_kind kind_at one_of ranges
class-token m s at l rest h t d =
    let rs = runs none 0 l in
    let w = runs_text rs in
    let f = runs-fine none 0 l tt (omega arith) in
    here m s at 91 ((w ++ (93 ∷ [])) ++ rest) 12 d refl refl refl
    ∙ ap (λ (x : List ℕ). bracket m at x) (append_assoc w (93 ∷ []) rest)
    ∙ bracket-plain m at (w ++ (93 ∷ rest)) (runs-no-caret rs rest f)
    ∙ ap (λ (o : Body). class_by false at o) (runs-body rs rest (suc at) f)
    ∙ class-shut rs l at (suc (suc at + length w)) (class-marks l h) t
    ∙ ap (λ (n : ℕ). tok (leaf (class l)) at n) (rw (length-append w (93 ∷ [])) (omega arith))

-- a written terminal is read as itself and ends right behind its text, in both modes and whatever follows
pub leaf-token : (m : Mode) (s : List ℕ) (at : ℕ) (x : Leaf) (rest : List ℕ) → FineLeaf x → drop at s ≡ leaf_text x ++ rest
    → token_at m s at ≡ tok (leaf x) at (at + length (leaf_text x))
unfolding leaf_text by_kind kind_at one_of ranges
leaf-token m s at any rest f d = here m s at 46 rest 10 d refl refl refl ∙ ap (λ (n : ℕ). tok (leaf any) at n) (omega arith)
leaf-token m s at (literal []) rest f d = absurd f
leaf-token m s at (literal (c ∷ l)) rest f d = literal-token m s at c l rest f.0 f.1 d
leaf-token m s at (class l) rest f d = class-token m s at l rest f.0 f.1 d

-- names
span-stops : (l : List ℕ) → Stops l → name_span l ≡ []
unfolding name_span
span-stops [] h = refl
span-stops (b ∷ l) h = rw (name_span, h)

span-name : (w l : List ℕ) → AllName w → Stops l → name_span (w ++ l) ≡ w
unfolding name_span
span-name [] l a h = span-stops l h
span-name (b ∷ w) l a h = rw (name_span, a.0) (ap (λ (x : List ℕ). b ∷ x) (span-name w l a.1 h))

lake-from : (i b : ℕ) (w rest : List ℕ) → kind_at b ≡ 2 → AllName w → angle Lake i (b ∷ (w ++ (62 ∷ rest))) ≡ tok (symbol (lake (b ∷ w))) i (i + length (b ∷ w) + 2)
unfolding angle kind_at one_of ranges
lake-from i b w rest k a =
    let n : eqb b 45 ≡ false = ne_eqb b 45 (λ e. let z : 2 ≡ 0 = sym k ∙ ap kind_at e in omega arith) in
    let v : name_span (b ∷ (w ++ (62 ∷ rest))) ≡ b ∷ w = span-name (b ∷ w) (62 ∷ rest) (letter-name b k, a) refl in
    rw (angle, n, k) (ap (λ (x : List ℕ). lake_by i x (drop (length x) (b ∷ (w ++ (62 ∷ rest))))) v ∙ ap (λ (x : List ℕ). lake_by i (b ∷ w) x) (drop-append_seam w (62 ∷ rest)))

-- a written name with nothing behind it that a name goes on with; a written lake with anything behind it
pub name-token : (m : Mode) (s : List ℕ) (at : ℕ) (w rest : List ℕ) → FineName w → Stops rest → drop at s ≡ w ++ rest → token_at m s at ≡ tok (symbol (name w)) at (at + length w)
unfolding by_kind
name-token m s at [] rest f h d = absurd f
name-token m s at (b ∷ w) rest f h d =
    here m s at b (w ++ rest) 2 d f.0 refl refl ∙ ap (λ (x : List ℕ). tok (symbol (name x)) at (at + length x)) (span-name (b ∷ w) rest (letter-name b f.0, f.1) h)

pub lake-token : (s : List ℕ) (at : ℕ) (w rest : List ℕ) → FineName w → drop at s ≡ symbol_text (lake w) ++ rest
    → token_at Lake s at ≡ tok (symbol (lake w)) at (at + length (symbol_text (lake w)))
unfolding symbol_text by_kind kind_at one_of ranges
lake-token s at [] rest f d = absurd f
lake-token s at (b ∷ w) rest f d =
    here Lake s at 60 (b ∷ ((w ++ (62 ∷ [])) ++ rest)) 13 d refl refl refl
    ∙ ap (λ (x : List ℕ). angle Lake at (b ∷ x)) (append_assoc w (62 ∷ []) rest)
    ∙ lake-from at b w rest f.0 f.1
    ∙ ap (λ (n : ℕ). tok (symbol (lake (b ∷ w))) at n) (rw (length-append w (62 ∷ [])) (omega arith))

-- the tokens of one byte, and the arrow
pub arrow-token : (m : Mode) (s : List ℕ) (at : ℕ) (rest : List ℕ) → drop at s ≡ 60 ∷ 45 ∷ rest → token_at m s at ≡ tok arrow at (at + 2)
unfolding by_kind angle kind_at one_of ranges
arrow-token Plain s at rest d = here Plain s at 60 (45 ∷ rest) 13 d refl refl refl
arrow-token Lake s at rest d = here Lake s at 60 (45 ∷ rest) 13 d refl refl refl
