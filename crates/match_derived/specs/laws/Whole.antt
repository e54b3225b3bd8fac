-- The promise of a match: over right cells, what is evaluated, listed and left in the words is read off the one derivation that the grammar has by the
-- rules, its lakes included. Assumes nothing.
use Rattle.std.specs.Prelude.{ℕ, suc, ◌≤◌, ◌≡◌, List, [], map, get_or, length}
use Rattle.std.proofs.Math.Path.{ap, fun_ext}
use Rattle.std.proofs.Common.{subst, ◌∙◌, sym as flip, arith}
use Rattle.std.proofs.Math.Option.{Option, none}
use Rattle.std.proofs.Math.ListN.{get_or-map}
use Rattle.grammar.specs.Exp.{Exp, sym}
use Rattle.match_meaning.specs.Meaning.{Meant, Node, SymbolBody, rule, Derives, plain_body, plain_of}
use Rattle.match_meaning.proofs.laws.Shape.{Climb, shape}
use Rattle.match_meaning.proofs.laws.LakesPlain.{lakes-are-plain}
use Rattle.match_eval.specs.Eval.{nowhere, body_of, ev}
use Rattle.match_list.specs.Nodes.{levels, list_of, listing_of, words_of}
use Rattle.match_cells.specs.laws.Sound.{plainly}
use Rattle.match_cells.specs.laws.Agrees.{Right, ev-sound, ev-only}
use Rattle.match_list.proofs.laws.Cut.{cut, listing-cut, words-cut}
use Rattle.match_derived.specs.laws.Lists.{lists, lists-none}

-- the list holds the plain bodies of the grammar g
abbrev pub Holds : List (Exp ℕ) → Meant → Type 0
Holds bodies g = (r : ℕ) → plain_body g.water (g.body r) ≡ body_of bodies r

-- a grammar by the list of its bodies, lakes too, and its plain bodies
abbrev pub lakely : List SymbolBody → Option (Exp ℕ) → Meant
lakely bs w = record { body = λ (r : ℕ). get_or bs r (rule nowhere); water = w }

pub holds : (bs : List SymbolBody) (w : Option (Exp ℕ)) → Holds (map (plain_body w) bs) (lakely bs w)
unfolding plain_body
holds bs w r = flip (get_or-map (plain_body w) bs r (rule nowhere))

module _ (bodies : List (Exp ℕ)) (g : Meant) (held : Holds bodies g) (s : List ℕ) where
  same-grammar : plain_of g ≡ plainly bodies
  same-grammar = ap (λ (b : ℕ → SymbolBody). record { body = b; water = none }) (fun_ext (λ (r : ℕ). ap rule (held r)))

  to-plain : {d p x : ℕ} {e : Exp ℕ} {ns : List Node} → Derives g s d e p x ns → Derives (plainly bodies) s d e p x ns
  to-plain {d} {p} {x} {e} {ns} t = subst (λ (k : Meant). Derives k s d e p x ns) same-grammar ((lakes-are-plain g s d e p x ns).0 t)

  from-plain : {d p x : ℕ} {e : Exp ℕ} {ns : List Node} → Derives (plainly bodies) s d e p x ns → Derives g s d e p x ns
  from-plain {d} {p} {x} {e} {ns} t = (lakes-are-plain g s d e p x ns).1 (subst (λ (k : Meant). Derives k s d e p x ns) (flip same-grammar) t)

  module _ (cs : List ℕ) (right : Right bodies s cs) where
    -- every expression has a derivation at every place, with the result that `ev` says
    pub evaluated : (e : Exp ℕ) (d p : ℕ) → p ≤ length s → (ns : List Node) × Derives g s d e p (ev s cs (length bodies) e p) ns
    evaluated e d p h = let t : (ns : List Node) × Derives (plainly bodies) s d e p (ev s cs (length bodies) e p) ns = ev-sound bodies s cs right e p h d in (t.0, from-plain t.1)

    -- and no derivation has another
    pub evaluated-only : {d p x : ℕ} {e : Exp ℕ} {ns : List Node} → p ≤ length s → Derives g s d e p x ns → ev s cs (length bodies) e p ≡ x
    evaluated-only h t = ev-only bodies s cs right h (to-plain t)

    -- the list of a match is the derivation's, cut at the bound on levels,
    pub listed-cut : {m : ℕ} {ns : List Node} → Derives g s 0 (sym 0) 0 (suc m) ns → list_of bodies s cs ≡ cut levels ns
    unfolding list_of
    listed-cut {ns = ns} t = lists bodies s cs right levels (omega arith) (to-plain t) ∙ ap (λ (c : ℕ). cut c ns) (omega arith)

    -- and neither the answer nor the words see the cut
    pub listed : {m : ℕ} {ns : List Node} (room : ℕ) (ws : List ℕ) → Derives g s 0 (sym 0) 0 (suc m) ns
        → (listing_of room 0 (list_of bodies s cs) ≡ listing_of room 0 ns) × (words_of room ws (list_of bodies s cs) ≡ words_of room ws ns)
    unfolding levels
    listed {ns = ns} room ws t =
        let e : list_of bodies s cs ≡ cut levels ns = listed-cut t in
        let c : Climb 0 ns = (shape g s t).1 in
        (ap (listing_of room 0) e ∙ listing-cut room 0 0 ns (omega arith) c, ap (words_of room ws) e ∙ words-cut room 0 ws ns (omega arith) c)

    -- "No match" is an answer: no node written
    pub unmatched : {ns : List Node} → Derives g s 0 (sym 0) 0 0 ns → list_of bodies s cs ≡ []
    unfolding list_of
    unmatched t = lists-none bodies s cs right levels (omega arith) (to-plain t)
