-- What the loader's code gives.
use Rattle.std.proofs.Common.{ℕ, ◌-◌, List, ◌++◌, length, replicate, sym, subst}
use Rattle.document.specs.declared.node.Node.{Node}
use Rattle.document.specs.Empty.{empty_node}
use Rattle.document.specs.Check.{handed}
use Rattle.tables.specs.Stacks.{room_of}
use Rattle.composer.specs.Holding.{lengths_of}
use Rattle.loader.specs.Loading.{Outcome, loading}
use Rattle.loads.specs.Standing.{Stands}
use Rattle.loads.specs.Gives.{CodeGives}
use Rattle.loads.proofs.Loads.{load_gives}

pub code_gives : CodeGives
code_gives p p' f f' before after l ok c =
    let o : Outcome = loading (lengths_of before) p f in
    let d = load_gives (lengths_of before) p f l ok (sym c.answered) in
    let vs : List Node = replicate (room_of before.nodes - length o.holds.nodes) empty_node in
    let ls : List ℕ = replicate (room_of before.links - length o.holds.links) 0 in
    let ts : List ℕ = replicate (room_of before.text - length o.holds.text) 0 in
    record {
      document = d;
      stands = subst (λ x. Stands (handed x after.links.items.now after.text.items.now l.nodes) o.holds) (sym c.nodes)
          (subst (λ x. Stands (handed (o.holds.nodes ++ vs) x after.text.items.now l.nodes) o.holds) (sym c.links)
          (subst (λ x. Stands (handed (o.holds.nodes ++ vs) (o.holds.links ++ ls) x l.nodes) o.holds) (sym c.text) (d.stands vs ls ts)));
    }
