-- What the tables hold after a load, entry by entry.
use Rattle.std.proofs.Common.{◌≡◌, ℕ, List, sym, refl, ap, ◌∙◌, Err, Ok, Some}
use Rattle.tables.specs.declared.stack.Stack.{Stack}
use Rattle.tables.specs.Stacks.{contents, room_of, Clean}
use Rattle.tables.proofs.Clean.{clean_table}
use Rattle.yaml.specs.Flow.{Flow}
use Rattle.document.specs.Empty.{empty_node}
use Rattle.composer.specs.declared.stacks.Tables.{Tables}
use Rattle.composer.specs.declared.refusal.Refusal.{Refusal}
use Rattle.composer.specs.Names.{empty_anchor}
use Rattle.composer.specs.State.{Lengths, spaces_for}
use Rattle.composer.specs.Holding.{state_of, lengths_of, spaces_of, base_of, Base, AllClean, Emptied, Forgot}
use Rattle.loader.specs.declared.answer.Loaded.{Loaded}
use Rattle.loader.specs.declared.answer.Phase.{Phase}
use Rattle.loader.specs.declared.answer.Phase.TheVariants.{Fresh, Between, Ended, Spoilt}
use Rattle.loader.specs.Loading.{Answer, Outcome, loading, filled}
use Rattle.loader.specs.Loads.{loading_on, WithDocument, WithRefusal, ComesTo, Loads}

whole : {X : Type 0} (empty : X) (s : Stack X) (room : ℕ) (xs : List X) → Clean empty s → room_of s ≡ room → contents s ≡ xs → s.items.now ≡ filled room empty xs
whole empty s room xs c r h = clean_table empty s c ∙ (λ i. filled (r i) empty (h i))

settled : (o : Outcome) (before after : Tables) (answer : Answer) (phase : Phase) (f : Flow)
    → o ≡ record { answer = answer; holds = state_of after; phase = phase; flow = f } → base_of after ≡ base_of before → AllClean after → ComesTo o before answer phase f after
settled o before after answer phase f told base clean =
    let lengths = ap (λ (b : Base). b.lengths) base in
    record {
      answered = sym (ap (λ x. x.answer) told);
      nodes = whole empty_node after.nodes (room_of before.nodes) o.holds.nodes clean.nodes (ap (λ l. l.nodes) lengths) (sym (ap (λ x. x.holds.nodes) told));
      links = whole 0 after.links (room_of before.links) o.holds.links clean.links (ap (λ l. l.links) lengths) (sym (ap (λ x. x.holds.links) told));
      text = whole 0 after.text (room_of before.text) o.holds.text clean.text (ap (λ l. l.text) lengths) (sym (ap (λ x. x.holds.text) told));
      anchors = whole empty_anchor after.anchors (room_of before.anchors) o.holds.anchors clean.anchors (ap (λ l. l.anchors) lengths) (sym (ap (λ x. x.holds.anchors) told));
      waiting = whole 0 after.waiting (room_of before.waiting) o.holds.waiting clean.waiting (ap (λ l. l.waiting) lengths) (sym (ap (λ x. x.holds.waiting) told));
      next_phase = sym (ap (λ x. x.phase) told);
      left = sym (ap (λ x. x.flow) told);
      base = base;
    }

same_loading : (l : Lengths) (phase : Phase) (f : Flow) → loading l phase f ≡ loading_on (spaces_for l) phase f
same_loading l Fresh f = refl
same_loading l Between f = refl
same_loading l Ended f = refl
same_loading l Spoilt f = refl

module _ (before first : Tables) (phase : Phase) (f : Flow) (emptied : Emptied before first) where
  outcome : loading (lengths_of before) phase f ≡ loading_on (spaces_of first) phase f
  outcome = same_loading (lengths_of before) phase f ∙ ap (λ (b : Base). loading_on (spaces_for b.lengths) phase f) (sym emptied.base)

  pub loads_document : (l : Loaded) (f' : Flow) (full after : Tables) → WithDocument (loading_on (spaces_of first) phase f) first l full f' → Forgot full after
      → Loads phase f before (Ok (Some l)) Between f' after
  loads_document l f' full after w g =
      settled (loading (lengths_of before) phase f) before after (Ok (Some l)) Between f'
      (outcome ∙ w.told ∙ ap (λ s. record { answer = Ok (Some l); holds = s; phase = Between; flow = f' }) (sym g.state))
      (g.base ∙ (w.base ∙ emptied.base)) (g.clean (w.clean emptied.clean))

  pub loads_refusal : (e : Refusal) (f' : Flow) (full after : Tables) → WithRefusal (loading_on (spaces_of first) phase f) first e full f' → Emptied full after
      → Loads phase f before (Err e) Spoilt f' after
  loads_refusal e f' full after w g =
      settled (loading (lengths_of before) phase f) before after (Err e) Spoilt f'
      (outcome ∙ w.told ∙ ap (λ s. record { answer = Err e; holds = s; phase = Spoilt; flow = f' }) (sym g.state))
      (g.base ∙ (w.base ∙ emptied.base)) g.clean
