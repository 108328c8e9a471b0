-- What reading a Document tells of the node that a number names.
use Rattle.std.proofs.Common.{◌≡◌, ℕ, zero, suc, ◌<◌, List, [], ◌∷◌, length, get_or, Some, sym, ap, ◌∙◌, subst, arith}
use Rattle.std.specs.List.{AllByRecursion}
use Rattle.model.specs.Graph.{Vertex, Book, numbered}
use Rattle.document.specs.Reads.{given, links_in}
use Rattle.document.specs.Sound.{Names, SoundBook}
use Rattle.serial.proofs.Among.{numbered_there}
use Rattle.walk.specs.Looks.{links_at, Inside, HasLinks}
use Rattle.walk.proofs.Sounds.{links_few, vertex_at_lem}

at_there : {X : Type 0} (P : X → Type 0) (d : X) (xs : List X) (i : ℕ) → AllByRecursion P xs → i < length xs → P (get_or xs i d)
at_there P d [] i all lt = absurd (omega arith)
at_there P d (x ∷ xs) zero all lt = all.0
at_there P d (x ∷ xs) (suc i) all lt = at_there P d xs i all.1 (omega arith)

pub links_are : (g : List Vertex) (v : ℕ) (x : Vertex) → numbered g v ≡ Some x → links_at g v ≡ x.links
links_are g v x e = rw e

pub links_there : (b : Book) (v : ℕ) (ws : List ℕ) → SoundBook b → Inside b.nodes v → Some ws ≡ given links_in (numbered b.nodes v) → HasLinks b.nodes v ws
links_there b v ws s in_b e =
    let x = numbered_there b.nodes v in_b.low in_b.high in
    let are : given links_in (numbered b.nodes v) ≡ Some x.0.links = ap (given links_in) x.1 in
    let same : ws ≡ x.0.links = cc in
    record {
      links = same ∙ sym (links_are b.nodes v x.0 x.1);
      few = omega (arith, links_few b s v x.0 x.1, ap length same);
      inside = λ i lt.
          let named = at_there (Names (length b.nodes)) 0 ws i (subst (λ (xs : List ℕ). AllByRecursion (Names (length b.nodes)) xs) (sym same) (vertex_at_lem b s v x.0 x.1).links_name) lt in
          record { low = named.low; high = named.high };
    }
