-- A text is refused exactly if no good list has it, and gives a list exactly if it is that list's text. Assumes nothing.
use Rattle.std.specs.Prelude.{ℕ, ◌≤◌, ◌≡◌, refl, List, ◌↔◌, length}
use Rattle.std.proofs.Common.{sym, ap, ◌∙◌}
use Rattle.std.proofs.Math.Option.{Option, none, some}
use Rattle.base_facts.specs.laws.Options.{some-none}
use Rattle.read_tokens.specs.Token.{Symbol}
use Rattle.read_tokens.specs.Bounds.{input_bound}
use Rattle.match_meaning.specs.Meaning.{Node}
use Rattle.tree_json.specs.Reading.{parsed, SaysList, Plainly}
use Rattle.tree_json.proofs.laws.Only.{read-only-texts}
use Rattle.tree_json.proofs.laws.Back.{texts-are-read}

pub record ReadsBack (f : ℕ → Symbol) (R : ℕ) (s js : List ℕ) : Type 0 where
  pub gives : (ns : List Node) → (parsed f R s js ≡ some ns) ↔ SaysList f R s js ns
  pub refuses : (parsed f R s js ≡ none) ↔ ((ns : List Node) → SaysList f R s js ns → ⊥)

pub reads-back : (f : ℕ → Symbol) (R : ℕ) (s : List ℕ) → Plainly f R → length s ≤ input_bound → (js : List ℕ) → ReadsBack f R s js
reads-back f R s g short js =
    record { gives = λ ns. (read-only-texts f R s js ns, back ns); refuses = (λ e ns h. some-none ns (sym (back ns h) ∙ e), refused (parsed f R s js) refl) }
  where
    back : (ns : List Node) → SaysList f R s js ns → parsed f R s js ≡ some ns
    back ns h = ap (parsed f R s) h.text ∙ texts-are-read f R s g short ns h.good h.many

    refused : (o : Option (List Node)) → parsed f R s js ≡ o → ((ns : List Node) → SaysList f R s js ns → ⊥) → o ≡ none
    refused none e n = refl
    refused (some ns) e n = absurd (n ns (read-only-texts f R s js ns e))
