-- Whatever is read can be written: the tokens of a text of bytes are fine, so are the trees of a grammar that has them. So every grammar that is read is read again from its text. Assumes nothing.
use Rattle.std.specs.Prelude.{ℕ, zero, suc, ◌+◌, ◌-◌, ◌*◌, ◌≤◌, ◌<◌, ◌≡◌, refl, Bool, true, false, cond, ◌&&◌, List, [], ◌∷◌, ◌++◌, map, eqb, leb, length, drop, get_or}
use Rattle.std.proofs.Common.{sym, ap, ◌∙◌, subst, arith, leb-true, eqb-true, length-append}
use Rattle.std.proofs.Math.Bool.{and-eq-true_iff}
use Rattle.std.proofs.Math.Option.{Option, none, some}
use Rattle.read_tokens.specs.Kinds.{kind_at}
use Rattle.read_tokens.specs.declared.Mode.{Mode}
use Rattle.read_tokens.specs.declared.Mode.TheVariants.{Lake, Plain}
use Rattle.read_tokens.specs.Token.{amp, bang, query, asterisk, cross, Tok, symbol, leaf, pre, suf, arrow, slash, opens, closes, bad, Token, Lexeme}
use Rattle.read_tokens.specs.Bounds.{first_octal}
use Rattle.read_tokens.specs.Chars.{Char, got, octal, octals, letters, four, char, Range, Item, single, Body, shut, broken, also, by_width, shut_by, body}
use Rattle.read_tokens.specs.Tokens.{skip, name_byte, name_span, lake_by, angle, low_of, literal_by, among, some_true, turned, class_marks, class_token, class_by, bracket, by_kind, token_from, token_at, by_end, lexemes_from, lexemes, toks_of, toks}
use Rattle.read_tokens.specs.laws.Bytes.{Bytes, bytes_drop}
use Rattle.read_tokens.specs.laws.Tests.{by-test, by_cond}
use Rattle.read_tokens.specs.laws.Forward.{span-letter}
use Rattle.read_tokens.specs.laws.Marks.{table-length}
use Rattle.grammar.specs.Syntax.{Choice, one, or, Sequence, first, next, Prefixed, bare, with, Suffixed, only, then, Primary, psym, term, group, Rules, rule, more, choice_toks, seq_toks, pref_toks, suf_toks, prim_toks, tokens}
use Rattle.grammar.specs.Exp.{Rule}
use Rattle.grammar.specs.Trees.{tree_c, tree_s, tree_p, tree_f, tree_q, ruled, trees}
use Rattle.read_syntax.specs.Grammar.{GrammarOf}
use Rattle.write_rules.specs.Writing.{text}
use Rattle.write_rules.proofs.laws.Terminals.{FineLeaf, AllName, FineName, FineSymbol}
use Rattle.write_rules.proofs.laws.Trip.{FineExpr, FineRules, round_trip}

octal-low : (d : ℕ) → octal d ≡ true → d ≤ 55
octal-low d e = leb-true d 55 ((and-eq-true_iff (leb 48 d) (leb d 55)).0 e).1

-- characters are bytes
abbrev Small : Char → Type 0
Small c = c.byte < 256

by-pick : (b : Bool) (x y : Char) → (b ≡ true → Small x) → Small y → Small (cond b x y)
by-pick true x y h k = h refl
by-pick false x y h k = k

octals-small : (c d e : ℕ) → octal c ≡ true → Small (octals c d e)
unfolding octals first_octal
octals-small c d e h =
    by-pick (octal d) _ (got (c - 48) 2)
    (λ k.
    by-pick (leb c first_octal && octal e) (got ((c - 48) * 64 + (d - 48) * 8 + (e - 48)) 4) (got ((c - 48) * 8 + (d - 48)) 3)
    (λ j. let b = (and-eq-true_iff (leb c first_octal) (octal e)).0 j in omega (arith, leb-true c first_octal b.0, octal-low d k, octal-low e b.1))
    (omega (arith, octal-low c h, octal-low d k)))
    (omega (arith, octal-low c h))

letters-small : (c : ℕ) → Small (letters c)
unfolding letters
letters-small c =
    by-pick (eqb c 110) (got 10 2) _ (λ _. omega arith) (
    by-pick (eqb c 114) (got 13 2) _ (λ _. omega arith) (
    by-pick (eqb c 116) (got 9 2) _ (λ _. omega arith) (
    by-pick (eqb c 39) (got 39 2) _ (λ _. omega arith) (
    by-pick (eqb c 34) (got 34 2) _ (λ _. omega arith) (
    by-pick (eqb c 91) (got 91 2) _ (λ _. omega arith) (
    by-pick (eqb c 93) (got 93 2) _ (λ _. omega arith) (
    by-pick (eqb c 92) (got 92 2) (got 0 0) (λ _. omega arith) (omega arith))))))))

escape-small : (c d e : ℕ) → Small (cond (octal c) (octals c d e) (letters c))
escape-small c d e = by-pick (octal c) (octals c d e) (letters c) (octals-small c d e) (letters-small c)

char-small : (l : List ℕ) → Bytes l → Small (char l)
unfolding char four
char-small [] h = omega arith
char-small (b ∷ l) h =
    by-pick (eqb b 256) (got 0 0) _ (λ _. omega arith) (by-pick (eqb b 92) _ (got b 1) (λ _. escape-small (get_or l 0 256) (get_or l 1 256) (get_or l 2 256)) h.0)

abbrev LowBody : Body → Type 0
LowBody (shut rs e) = Bytes (map low_of rs)
LowBody broken = Unit {0}

also-low : (r : Range) (o : Body) → r.lo < 256 → LowBody o → LowBody (also r o)
also-low r (shut rs e) h k = (h, k)
also-low r broken h k = tt

width_low : (n : ℕ) (r : Range) (k : ℕ → Body) → r.lo < 256 → ((j : ℕ) → LowBody (k j)) → LowBody (by_width n r k)
width_low zero r k h b = tt
width_low (suc n) r k h b = also-low r (k n) h (b n)

turn_low : (x : Bool) (at : ℕ) (i : Item) (k : ℕ → Body) → i.span.lo < 256 → ((j : ℕ) → LowBody (k j)) → LowBody (shut_by x at i k)
turn_low true at i k h b = tt
turn_low false at i k h b = width_low i.width i.span k h b

body-low : (close n at : ℕ) (l : List ℕ) → Bytes l → LowBody (body close single n at l)
unfolding body single
body-low close zero at [] h = tt
body-low close (suc n) at [] h = tt
body-low close zero at (b ∷ l) h =
    turn_low (eqb b close) at (single (b ∷ l)) (λ n. body close single n (suc at) l) (char-small (b ∷ l) h) (λ n. body-low close n (suc at) l h.1)
body-low close (suc n) at (b ∷ l) h = body-low close n (suc at) l h.1

-- tokens
abbrev pub FineTok : Mode → Tok → Type 0
FineTok m (symbol h) = FineSymbol m h
FineTok m (leaf x) = FineLeaf x
FineTok m (pre x) = Unit {0}
FineTok m (suf x) = Unit {0}
FineTok m arrow = Unit {0}
FineTok m slash = Unit {0}
FineTok m opens = Unit {0}
FineTok m closes = Unit {0}
FineTok m bad = Unit {0}

abbrev FineO : Mode → Option Tok → Type 0
FineO m none = Unit {0}
FineO m (some t) = FineTok m t

abbrev F : Mode → Token → Type 0
F m t = FineO m t.is

literal-fine : (m : Mode) (i : ℕ) (o : Body) → LowBody o → F m (literal_by i o)
unfolding literal_by
literal-fine m i broken h = tt
literal-fine m i (shut [] e) h = tt
literal-fine m i (shut (r ∷ rs) e) h = h

marked-fine : (m : Mode) (l : List Bool) (i e : ℕ) → length l ≡ 256 → (x : Bool) → some_true l ≡ x → F m (class_token x l i e)
marked-fine m l i e n true h = (n, h)
marked-fine m l i e n false h = tt

class-fine : (m : Mode) (c : Bool) (i : ℕ) (o : Body) → F m (class_by c i o)
unfolding class_by class_marks
class-fine m c i broken = tt
class-fine m c i (shut [] e) = tt
class-fine m c i (shut (r ∷ rs) e) = marked-fine m (class_marks c (r ∷ rs)) i e (table-length (λ b. turned c (among b (r ∷ rs))) 0 256) (some_true (class_marks c (r ∷ rs))) refl

bracket-fine : (m : Mode) (i : ℕ) (l : List ℕ) → F m (bracket m i l)
unfolding bracket
bracket-fine Plain i [] = tt
bracket-fine Lake i [] = tt
bracket-fine Plain i (b ∷ l) = class-fine Plain false i _
bracket-fine Lake i (b ∷ l) = by-test (F Lake) (eqb b 94) _ _ (λ _. class-fine Lake true i _) (class-fine Lake false i _)

span-fine : (l : List ℕ) → AllName (name_span l)
unfolding name_span
span-fine [] = tt
span-fine (b ∷ l) = go (name_byte b) refl (span-fine l)
  where
    go : (x : Bool) → name_byte b ≡ x → AllName (name_span l) → AllName (elim x [ true ↦ b ∷ name_span l | false ↦ [] ])
    go true e h = (e, h)
    go false e h = tt

name-fine : (b : ℕ) (l : List ℕ) → kind_at b ≡ 2 → FineName (name_span (b ∷ l))
name-fine b l e = subst (λ (w : List ℕ). FineName w) (sym (span-letter b l e)) (e, span-fine l)

lake-fine : (i : ℕ) (w l : List ℕ) → FineName w → F Lake (lake_by i w l)
lake-fine i w [] h = tt
lake-fine i w (b ∷ l) h = by_cond (F Lake) (eqb b 62) _ _ h tt

less-fine : (m : Mode) (i : ℕ) (l : List ℕ) → F m (angle m i l)
unfolding angle
less-fine Plain i [] = tt
less-fine Lake i [] = tt
less-fine Plain i (b ∷ l) = by_cond (F Plain) (eqb b 45) _ _ tt tt
less-fine Lake i (b ∷ l) =
    by-test (F Lake) (eqb b 45) _ _ (λ _. tt) (
    by-test (F Lake) (eqb (kind_at b) 2) _ _ (λ e. lake-fine i (name_span (b ∷ l)) (drop (length (name_span (b ∷ l))) (b ∷ l)) (name-fine b l (eqb-true (kind_at b) 2 e))) tt)

kind-fine : (k : ℕ) (m : Mode) (b i : ℕ) (l : List ℕ) → kind_at b ≡ k → Bytes l → F m (by_kind k m b i l)
unfolding by_kind
kind-fine k m b i l e h =
    by-test (F m) (eqb k 2) _ _ (λ x. name-fine b l (e ∙ eqb-true k 2 x)) (
    by-test (F m) (eqb k 5) _ _ (λ _. tt) (
    by-test (F m) (eqb k 6) _ _ (λ _. tt) (
    by-test (F m) (eqb k 7) _ _ (λ _. tt) (
    by-test (F m) (eqb k 8) _ _ (λ _. tt) (
    by-test (F m) (eqb k 9) _ _ (λ _. tt) (
    by-test (F m) (eqb k 10) _ _ (λ _. tt) (
    by-test (F m) (eqb k 11) _ _ (λ _. literal-fine m i (body b single 0 (suc i) l) (body-low b 0 (suc i) l h)) (
    by-test (F m) (eqb k 12) _ _ (λ _. bracket-fine m i l) (
    by-test (F m) (eqb k 13) _ _ (λ _. less-fine m i l) tt)))))))))

from-fine : (m : Mode) (i : ℕ) (l : List ℕ) → Bytes l → F m (token_from m i l)
unfolding token_from
from-fine m i [] h = tt
from-fine m i (b ∷ l) h = kind-fine (kind_at b) m b i l refl h.1

pub token-fine : (m : Mode) (s : List ℕ) (at : ℕ) → Bytes s → F m (token_at m s at)
unfolding token_at
token-fine m s at h = let i = skip false at (drop at s) in from-fine m i (drop i s) (bytes_drop i s h)

abbrev pub FineToks : Mode → List Tok → Type 0
FineToks m [] = Unit {0}
FineToks m (t ∷ l) = FineTok m t × FineToks m l

end-fine : (m : Mode) (o : Option Tok) (i n : ℕ) (k : ℕ → List Lexeme) → FineO m o → ((j : ℕ) → FineToks m (toks_of (k j))) → FineToks m (toks_of (by_end o i n k))
unfolding toks_of
end-fine m none i n k h r = tt
end-fine m (some t) i n k h r = (h, r n)

from-toks : (f : ℕ) (m : Mode) (s : List ℕ) (at : ℕ) → Bytes s → FineToks m (toks_of (lexemes_from f m s at))
unfolding lexemes_from toks_of
from-toks zero m s at h = tt
from-toks (suc f) m s at h =
    end-fine m (token_at m s at).is (token_at m s at).start (token_at m s at).next (λ n. lexemes_from f m s n) (token-fine m s at h) (λ n. from-toks f m s n h)

pub toks-fine : (m : Mode) (s : List ℕ) → Bytes s → FineToks m (toks m s)
unfolding toks lexemes
toks-fine m s h = from-toks (length s) m s 0 h

-- trees
split : (m : Mode) (l r : List Tok) → FineToks m (l ++ r) → FineToks m l × FineToks m r
split m [] r h = (tt, h)
split m (t ∷ l) r h = let u = split m l r h.1 in ((h.0, u.0), u.1)

mutual
  unfolding choice_toks tree_c

  fine-c : (m : Mode) (c : Choice) → FineToks m (choice_toks c) → FineExpr m (tree_c c)
  fine-c m (one s) h = fine-s m s h
  fine-c m (or c s) h = let u = split m (choice_toks c) (slash ∷ seq_toks s) h in (fine-c m c u.0, fine-s m s u.1.1)

  fine-s : (m : Mode) (s : Sequence) → FineToks m (seq_toks s) → FineExpr m (tree_s s)
  fine-s m (first p) h = fine-p m p h
  fine-s m (next s p) h = let u = split m (seq_toks s) (pref_toks p) h in (fine-s m s u.0, fine-p m p u.1)

  fine-p : (m : Mode) (p : Prefixed) → FineToks m (pref_toks p) → FineExpr m (tree_p p)
  fine-p m (bare f) h = fine-f m f h
  fine-p m (with amp f) h = fine-f m f h.1
  fine-p m (with bang f) h = fine-f m f h.1

  fine-f : (m : Mode) (f : Suffixed) → FineToks m (suf_toks f) → FineExpr m (tree_f f)
  fine-f m (only q) h = fine-q m q h
  fine-f m (then q query) h = fine-q m q (split m (prim_toks q) (suf query ∷ []) h).0
  fine-f m (then q asterisk) h = fine-q m q (split m (prim_toks q) (suf asterisk ∷ []) h).0
  fine-f m (then q cross) h = fine-q m q (split m (prim_toks q) (suf cross ∷ []) h).0

  fine-q : (m : Mode) (q : Primary) → FineToks m (prim_toks q) → FineExpr m (tree_q q)
  fine-q m (psym h) x = x.0
  fine-q m (term t) x = x.0
  fine-q m (group c) x = fine-c m c (split m (choice_toks c) (closes ∷ []) x.1).0

fine-join : (m : Mode) (l r : List Rule) → FineRules m l → FineRules m r → FineRules m (l ++ r)
fine-join m [] r h k = k
fine-join m (x ∷ l) r h k = (h.0, h.1, fine-join m l r h.2 k)

fine-r : (m : Mode) (r : Rules) → FineToks m (tokens r) → FineRules m (trees r)
unfolding tokens trees
fine-r m (rule h c) x = (x.0, fine-c m c x.1.1, tt)
fine-r m (more r h c) x =
    let u = split m (tokens r) (symbol h ∷ arrow ∷ choice_toks c) x in
    fine-join m (trees r) (ruled h (tree_c c) ∷ []) (fine-r m r u.0) (u.1.0, fine-c m c u.1.1.1, tt)

-- what is read can be written
pub fine : (m : Mode) (s : List ℕ) (g : List Rule) → Bytes s → GrammarOf m s g → FineRules m g
fine m s g h a = subst (λ (x : List Rule). FineRules m x) a.2 (fine-r m a.0 (subst (λ (l : List Tok). FineToks m l) (sym a.1) (toks-fine m s h)))

trees-some : (r : Rules) → trees r ≡ [] → ⊥
unfolding trees
trees-some (rule h c) e = let z : ◌≡◌ {A = ℕ} 0 1 = cc in omega arith
trees-some (more r h c) e = let z = ap length e in omega (arith, length-append (trees r) (ruled h (tree_c c) ∷ []))

-- THE PROMISE, from bytes to bytes: a text that is a grammar, written anew, is the same grammar
pub same-grammar : (m : Mode) (s : List ℕ) (g : List Rule) → Bytes s → GrammarOf m s g → GrammarOf m (text g) g
same-grammar m s [] h a = absurd (trees-some a.0 a.2)
same-grammar m s (r ∷ rs) h a = round_trip m r rs (fine m s (r ∷ rs) h a)
