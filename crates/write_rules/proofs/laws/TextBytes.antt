-- A written text is bytes. Assumes nothing.
use Rattle.std.specs.Prelude.{ℕ, zero, suc, ◌+◌, ◌≤◌, ◌<◌, ◌≡◌, refl, Bool, true, false, cond, ◌&&◌, ◌||◌, List, [], ◌∷◌, ◌++◌, T, eqb, leb, ltb}
use Rattle.std.proofs.Math.Bool.{and-false}
use Rattle.std.proofs.Math.Option.{none}
use Rattle.std.proofs.Common.{arith, ltb→lt}
use Rattle.std.proofs.Math.Decide.{dec_lt}
use Rattle.std.proofs.lemmas.Bool.{lt-leb}
use Rattle.read_tokens.specs.Kinds.{Range as KindRange, one_of, ranges, kind_at}
use Rattle.read_tokens.specs.declared.Mode.{Mode}
use Rattle.read_tokens.specs.declared.Mode.TheVariants.{Lake, Plain}
use Rattle.read_tokens.specs.Token.{Symbol, name, lake, Leaf, any, literal, class, Suffix, query, asterisk, cross}
use Rattle.read_tokens.specs.Bounds.{raw_from}
use Rattle.read_tokens.specs.Chars.{Range}
use Rattle.read_tokens.specs.Tokens.{name_byte}
use Rattle.read_tokens.specs.laws.All.{both_left, both_right, all-at}
use Rattle.read_tokens.specs.laws.Bytes.{Bytes, bytes-append}
use Rattle.grammar.specs.Exp.{Exp, sym, ter, seq, alt, opt, star, plus, ahead, never, Rule}
use Rattle.write_rules.specs.Writing.{byte_text, lit_char, class_char, lit_chars, runs, run_text, runs_text, leaf_text, symbol_text, suffix_byte, level, wrap, put, expr_text, rule_text, text}
use Rattle.write_rules.proofs.laws.Bodies.{Fine, AllFine, runs-fine}
use Rattle.write_rules.proofs.laws.Terminals.{FineLeaf, AllName, FineName, FineSymbol}
use Rattle.write_rules.proofs.laws.Trip.{FineExpr, FineRules}

-- a byte of a kind is below 256
abbrev Low : List KindRange → Bool
Low [] = true
Low (r ∷ rs) = ltb r.hi 256 && Low rs

none_above : (rs : List KindRange) (b : ℕ) → T (Low rs) → 256 ≤ b → one_of b rs ≡ 0
unfolding one_of
none_above [] b t h = refl
none_above (r ∷ rs) b t h =
    let u : leb b r.hi ≡ false = lt-leb b r.hi (omega (arith, ltb→lt r.hi 256 (both_left (ltb r.hi 256) (Low rs) t))) in
    rw (u, and-false (leb r.lo b)) (none_above rs b (both_right (ltb r.hi 256) (Low rs) t) h)

kind-small : (b k : ℕ) → kind_at b ≡ suc k → b < 256
unfolding kind_at ranges
kind-small b k e = go (dec_lt b 256)
  where
    go : Dec (b < 256) → b < 256
    go (yes h) = h
    go (no h) = absurd (omega (arith, none_above ranges b tt (omega arith), e))

name-small : (b : ℕ) → name_byte b ≡ true → b < 256
name-small b e = go (kind_at b) refl e
  where
    go : (k : ℕ) → kind_at b ≡ k → (eqb k 2 || eqb k 3) ≡ true → b < 256
    go zero h f = let z : ◌≡◌ {A = ℕ} 0 1 = cc in absurd (omega arith)
    go (suc k) h f = kind-small b k h

names-small : (w : List ℕ) → AllName w → Bytes w
names-small [] h = tt
names-small (b ∷ w) h = (name-small b h.0, names-small w h.1)

-- by test
small : List ℕ → Bool
small [] = true
small (b ∷ l) = ltb b 256 && small l

small_bytes : (l : List ℕ) → T (small l) → Bytes l
unfolding small
small_bytes [] t = tt
small_bytes (b ∷ l) t = (ltb→lt b 256 (both_left (ltb b 256) (small l) t), small_bytes l (both_right (ltb b 256) (small l) t))

lit-bytes : (c : ℕ) → c < 256 → Bytes (lit_char c)
unfolding lit_char byte_text raw_from small
lit-bytes c h = small_bytes (lit_char c) (all-at 256 (λ x. small (lit_char x)) tt c h)

class-bytes : (c : ℕ) → c < 256 → Bytes (class_char c)
unfolding class_char byte_text raw_from small
class-bytes c h = small_bytes (class_char c) (all-at 256 (λ x. small (class_char x)) tt c h)

lits-bytes : (l : List ℕ) → Bytes l → Bytes (lit_chars l)
unfolding lit_chars
lits-bytes [] h = tt
lits-bytes (c ∷ l) h = bytes-append (lit_char c) (lit_chars l) (lit-bytes c h.0) (lits-bytes l h.1)

run-bytes : (r : Range) → Fine r → Bytes (run_text r)
unfolding run_text
run-bytes r f = go (eqb r.lo r.hi)
  where
    u : Bytes (class_char r.lo)
    u = class-bytes r.lo (omega (arith, f.order, f.small))

    go : (x : Bool) → Bytes (cond x (class_char r.lo) (class_char r.lo ++ (45 ∷ class_char r.hi)))
    go true = u
    go false = bytes-append (class_char r.lo) (45 ∷ class_char r.hi) u (omega arith, class-bytes r.hi f.small)

runs-bytes : (rs : List Range) → AllFine rs → Bytes (runs_text rs)
unfolding runs_text
runs-bytes [] f = tt
runs-bytes (r ∷ rs) f = bytes-append (run_text r) (runs_text rs) (run-bytes r f.0) (runs-bytes rs f.1)

leaf-bytes : (x : Leaf) → FineLeaf x → Bytes (leaf_text x)
unfolding leaf_text
leaf-bytes any f = (omega arith, tt)
leaf-bytes (literal []) f = absurd f
leaf-bytes (literal (c ∷ l)) f = (omega arith, bytes-append (lit_chars (c ∷ l)) (39 ∷ []) (lits-bytes (c ∷ l) f) (omega arith, tt))
leaf-bytes (class l) f = (omega arith, bytes-append (runs_text (runs none 0 l)) (93 ∷ []) (runs-bytes (runs none 0 l) (runs-fine none 0 l tt (omega (arith, f.0)))) (omega arith, tt))

pub fine-bytes : (w : List ℕ) → FineName w → Bytes w
fine-bytes [] f = absurd f
fine-bytes (b ∷ w) f = (kind-small b 1 f.0, names-small w f.1)

symbol-bytes : (m : Mode) (h : Symbol) → FineSymbol m h → Bytes (symbol_text h)
unfolding symbol_text
symbol-bytes m (name w) f = fine-bytes w f
symbol-bytes Plain (lake w) f = absurd f
symbol-bytes Lake (lake w) f = (omega arith, bytes-append w (62 ∷ []) (fine-bytes w f) (omega arith, tt))

put-bytes : (k : ℕ) (e : Exp Symbol) → Bytes (expr_text e) → Bytes (put k e (expr_text e))
put-bytes k e h = go (ltb (level e) k) (expr_text e) h
  where
    go : (x : Bool) (l : List ℕ) → Bytes l → Bytes (wrap x l)
    go true l h = (omega arith, bytes-append l (41 ∷ []) h (omega arith, tt))
    go false l h = h

behind-bytes : (x : Suffix) (l : List ℕ) → Bytes l → Bytes (l ++ (suffix_byte x ∷ []))
behind-bytes query l h = bytes-append l (63 ∷ []) h (omega arith, tt)
behind-bytes asterisk l h = bytes-append l (42 ∷ []) h (omega arith, tt)
behind-bytes cross l h = bytes-append l (43 ∷ []) h (omega arith, tt)

expr-bytes : (m : Mode) (e : Exp Symbol) → FineExpr m e → Bytes (expr_text e)
unfolding expr_text
expr-bytes m (sym h) f = symbol-bytes m h f
expr-bytes m (ter x) f = leaf-bytes x f
expr-bytes m (seq a b) f =
    bytes-append (put 1 a (expr_text a)) _ (put-bytes 1 a (expr-bytes m a f.0)) (omega arith, put-bytes 2 b (expr-bytes m b f.1))
expr-bytes m (alt a b) f =
    bytes-append (put 0 a (expr_text a)) _ (put-bytes 0 a (expr-bytes m a f.0)) (omega arith, (omega arith, (omega arith, put-bytes 1 b (expr-bytes m b f.1))))
expr-bytes m (opt a) f = behind-bytes query (put 4 a (expr_text a)) (put-bytes 4 a (expr-bytes m a f))
expr-bytes m (star a) f = behind-bytes asterisk (put 4 a (expr_text a)) (put-bytes 4 a (expr-bytes m a f))
expr-bytes m (plus a) f = behind-bytes cross (put 4 a (expr_text a)) (put-bytes 4 a (expr-bytes m a f))
expr-bytes m (ahead a) f = (omega arith, put-bytes 3 a (expr-bytes m a f))
expr-bytes m (never a) f = (omega arith, put-bytes 3 a (expr-bytes m a f))

rule-bytes : (m : Mode) (r : Rule) → FineSymbol m r.left → FineExpr m r.right → Bytes (rule_text r)
unfolding rule_text
rule-bytes m r x y =
    bytes-append (symbol_text r.left) (32 ∷ 60 ∷ 45 ∷ 32 ∷ (expr_text r.right ++ (10 ∷ []))) (symbol-bytes m r.left x)
    (omega arith, (omega arith, (omega arith, (omega arith, bytes-append (expr_text r.right) (10 ∷ []) (expr-bytes m r.right y) (omega arith, tt)))))

pub text-bytes : (m : Mode) (g : List Rule) → FineRules m g → Bytes (text g)
unfolding text
text-bytes m [] f = tt
text-bytes m (r ∷ rs) f = bytes-append (rule_text r) (text rs) (rule-bytes m r f.0 f.1) (text-bytes m rs f.2)
