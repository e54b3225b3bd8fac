-- A piece of a text and its tokens: pieces one behind the other have the tokens one behind the other. Assumes nothing.
use Rattle.std.specs.Prelude.{ℕ, zero, suc, ◌+◌, ◌-◌, ◌≤◌, ◌≡◌, refl, false, List, [], ◌∷◌, ◌++◌, eqb, length, drop}
use Rattle.std.proofs.Common.{sym, ap, ap₂, ◌∙◌, append_assoc, append-nil, arith, length-append, drop-drop, drop_at}
use Rattle.std.proofs.Math.Option.{none}
use Rattle.read_tokens.specs.Kinds.{one_of, ranges, kind_at}
use Rattle.read_tokens.specs.declared.Mode.{Mode}
use Rattle.read_tokens.specs.declared.Mode.TheVariants.{Lake, Plain}
use Rattle.read_tokens.specs.Token.{Symbol, name, lake, Leaf, any, literal, class, Prefix, amp, bang, Suffix, query, asterisk, cross, Tok, symbol, leaf, pre, suf, arrow, slash, opens, closes, Token}
use Rattle.read_tokens.specs.Tokens.{tok, skip, by_kind, token_from, token_at, by_end, lexemes_from, lexemes, toks_of, toks}
use Rattle.write_rules.specs.Writing.{leaf_text, symbol_text, prefix_byte, suffix_byte}
use Rattle.write_rules.proofs.laws.Terminals.{FineLeaf, FineName, FineSymbol, Stops, here, leaf-token, name-token, lake-token, arrow-token}

-- the tokens from a place on, at most f of them
abbrev pub toks_from : ℕ → Mode → List ℕ → ℕ → List Tok
toks_from f m s at = toks_of (lexemes_from f m s at)

pub behind : (s : List ℕ) (at : ℕ) (w l : List ℕ) → drop at s ≡ w ++ l → drop (at + length w) s ≡ l
behind s at w l d = sym (drop-drop (length w) at s) ∙ ap (λ (x : List ℕ). drop (length w) x) d ∙ drop_at w l (length w) refl

-- tight: what follows may not go on with a name
pub data Edge : Type 0 where
  loose tight : Edge

abbrev pub Follows : Edge → List ℕ → Type 0
Follows loose l = Unit {0}
Follows tight l = Stops l

pub record Piece (m : Mode) (g : Edge) (w : List ℕ) (ts : List Tok) : Type 0 where
  pub short : length ts ≤ length w
  pub reads : (s : List ℕ) (at : ℕ) (rest : List ℕ) → Follows g rest → drop at s ≡ w ++ rest → (f : ℕ) → toks_from (length ts + f) m s at ≡ ts ++ toks_from f m s (at + length w)

pub joined : {m : Mode} {g k : Edge} {w v : List ℕ} {ts us : List Tok} → Piece m g w ts → Piece m k v us → ((rest : List ℕ) → Follows k rest → Follows g (v ++ rest)) → Piece m k (w ++ v) (ts ++ us)
joined {m} {g} {k} {w} {v} {ts} {us} a b h =
    record {
      short = rw (length-append ts us, length-append w v) (omega (arith, a.short, b.short));
      reads = λ s at rest e d f.
          let d' : drop at s ≡ w ++ (v ++ rest) = d ∙ append_assoc w v rest in
          ap (λ (n : ℕ). toks_from n m s at) (rw (length-append ts us) (omega arith))
          ∙ a.reads s at (v ++ rest) (h rest e) d' (length us + f)
          ∙ ap (λ (l : List Tok). ts ++ l) (b.reads s (at + length w) rest e (behind s at w (v ++ rest) d') f)
          ∙ sym (append_assoc ts us _)
          ∙ ap (λ (n : ℕ). (ts ++ us) ++ toks_from f m s n) (rw (length-append w v) (omega arith));
    }

one_more : (m : Mode) (s : List ℕ) (at : ℕ) (t : Tok) (i n f : ℕ) → token_at m s at ≡ tok t i n → toks_from (1 + f) m s at ≡ t ∷ toks_from f m s n
unfolding lexemes_from toks_of
one_more m s at t i n f e =
    let z : 1 + f ≡ suc f = omega arith in
    ap (λ (k : ℕ). toks_from k m s at) z ∙ ap (λ (x : Token). toks_of (by_end x.is x.start x.next (λ j. lexemes_from f m s j))) e

-- a piece that is one token
pub token-piece : (m : Mode) (g : Edge) (w : List ℕ) (t : Tok) → 1 ≤ length w
    → ((s : List ℕ) (at : ℕ) (rest : List ℕ) → Follows g rest → drop at s ≡ w ++ rest → token_at m s at ≡ tok t at (at + length w)) → Piece m g w (t ∷ [])
token-piece m g w t n h = record { short = n; reads = λ s at rest e d f. one_more m s at t at (at + length w) f (h s at rest e d) }

byte-piece : (m : Mode) (b k : ℕ) (t : Tok) → kind_at b ≡ k → eqb k 1 ≡ false → eqb k 4 ≡ false → ((i : ℕ) (l : List ℕ) → by_kind k m b i l ≡ tok t i (suc i)) → Piece m loose (b ∷ []) (t ∷ [])
byte-piece m b k t e x y h =
    token-piece m loose (b ∷ []) t (omega arith) (λ s at rest _ d. here m s at b rest k d e x y ∙ h at rest ∙ ap (λ (n : ℕ). tok t at n) (omega arith))

pub pre-piece : (m : Mode) (x : Prefix) → Piece m loose (prefix_byte x ∷ []) (pre x ∷ [])
unfolding by_kind kind_at one_of ranges
pre-piece m amp = byte-piece m 38 8 (pre amp) refl refl refl (λ i l. refl)
pre-piece m bang = byte-piece m 33 8 (pre bang) refl refl refl (λ i l. refl)

pub suf-piece : (m : Mode) (x : Suffix) → Piece m loose (suffix_byte x ∷ []) (suf x ∷ [])
unfolding by_kind kind_at one_of ranges
suf-piece m query = byte-piece m 63 9 (suf query) refl refl refl (λ i l. refl)
suf-piece m asterisk = byte-piece m 42 9 (suf asterisk) refl refl refl (λ i l. refl)
suf-piece m cross = byte-piece m 43 9 (suf cross) refl refl refl (λ i l. refl)

pub open-piece : (m : Mode) → Piece m loose (40 ∷ []) (opens ∷ [])
unfolding by_kind kind_at one_of ranges
open-piece m = byte-piece m 40 5 opens refl refl refl (λ i l. refl)

pub close-piece : (m : Mode) → Piece m loose (41 ∷ []) (closes ∷ [])
unfolding by_kind kind_at one_of ranges
close-piece m = byte-piece m 41 6 closes refl refl refl (λ i l. refl)

pub slash-piece : (m : Mode) → Piece m loose (47 ∷ []) (slash ∷ [])
unfolding by_kind kind_at one_of ranges
slash-piece m = byte-piece m 47 7 slash refl refl refl (λ i l. refl)

pub arrow-piece : (m : Mode) → Piece m loose (60 ∷ 45 ∷ []) (arrow ∷ [])
arrow-piece m = token-piece m loose (60 ∷ 45 ∷ []) arrow (omega arith) (λ s at rest _ d. arrow-token m s at rest d)

leaf-long : (x : Leaf) → 1 ≤ length (leaf_text x)
unfolding leaf_text
leaf-long any = omega arith
leaf-long (literal l) = omega arith
leaf-long (class l) = omega arith

pub leaf-piece : (m : Mode) (x : Leaf) → FineLeaf x → Piece m loose (leaf_text x) (leaf x ∷ [])
leaf-piece m x f = token-piece m loose (leaf_text x) (leaf x) (leaf-long x) (λ s at rest _ d. leaf-token m s at x rest f d)

name-long : (w : List ℕ) → FineName w → 1 ≤ length w
name-long [] f = absurd f
name-long (b ∷ w) f = omega arith

pub symbol-piece : (m : Mode) (h : Symbol) → FineSymbol m h → Piece m tight (symbol_text h) (symbol h ∷ [])
unfolding symbol_text
symbol-piece m (name w) f = token-piece m tight w (symbol (name w)) (name-long w f) (λ s at rest e d. name-token m s at w rest f e d)
symbol-piece Plain (lake w) f = absurd f
symbol-piece Lake (lake w) f = token-piece Lake tight (symbol_text (lake w)) (symbol (lake w)) (omega arith) (λ s at rest e d. lake-token s at w rest f d)

-- blanks
step : (b : ℕ) (l : List ℕ) (at : ℕ) → kind_at b ≡ 1 → skip false at (b ∷ l) ≡ skip false (suc at) l
unfolding skip
step b l at k = rw (skip, k, k)

blank : (m : Mode) (s : List ℕ) (at b : ℕ) (l : List ℕ) → drop at s ≡ b ∷ l → kind_at b ≡ 1 → token_at m s at ≡ token_at m s (at + 1)
unfolding token_at
blank m s at b l d k =
    ap (λ (i : ℕ). token_from m i (drop i s)) (rw (d, behind s at (b ∷ []) l d) (step b l at k ∙ ap (λ (n : ℕ). skip false n l) (omega arith)))

toks-same : (f : ℕ) (m : Mode) (s : List ℕ) (i j : ℕ) → token_at m s i ≡ token_at m s j → toks_from f m s i ≡ toks_from f m s j
unfolding lexemes_from toks_of
toks-same zero m s i j e = refl
toks-same (suc f) m s i j e = ap (λ (x : Token). toks_of (by_end x.is x.start x.next (λ n. lexemes_from f m s n))) e

pub blank-piece : (m : Mode) (b : ℕ) → kind_at b ≡ 1 → Piece m loose (b ∷ []) []
blank-piece m b k =
    record { short = omega arith; reads = λ s at rest _ d f. ap (λ (n : ℕ). toks_from n m s at) (omega arith) ∙ toks-same f m s at (at + 1) (blank m s at b rest d k) }

pub empty-piece : (m : Mode) → Piece m loose [] []
empty-piece m =
    record { short = omega arith; reads = λ s at rest _ d f. ap₂ (λ (n i : ℕ). toks_from n m s i) (omega arith) (omega arith) }

-- the end
toks-end : (f : ℕ) (m : Mode) (s : List ℕ) (at : ℕ) → drop at s ≡ [] → toks_from f m s at ≡ []
unfolding lexemes_from toks_of token_at token_from skip
toks-end zero m s at d = refl
toks-end (suc f) m s at d =
    let u : token_at m s at ≡ record { is = none; start = at; next = at } = rw (d, d) in
    ap (λ (x : Token). toks_of (by_end x.is x.start x.next (λ n. lexemes_from f m s n))) u

-- a text that is one piece
pub whole : (m : Mode) (g : Edge) (w : List ℕ) (ts : List Tok) → Follows g [] → Piece m g w ts → toks m w ≡ ts
unfolding toks lexemes
whole m g w ts h p =
    let d : drop 0 w ≡ w ++ [] = sym (append-nil w) in
    let f = length w - length ts in
    ap (λ (n : ℕ). toks_from n m w 0) (omega (arith, p.short))
    ∙ p.reads w 0 [] h d f
    ∙ ap (λ (l : List Tok). ts ++ l) (toks-end f m w (0 + length w) (behind w 0 w [] d))
    ∙ append-nil ts
