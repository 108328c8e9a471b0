-- From the tables cut to their space back to the tables handed in.
use Rattle.std.proofs.Common.{◌≡◌, ℕ, ◌≤◌, min, Bool, List, length, take, ap, ◌∙◌, subst, arith}
use Rattle.std.proofs.lemmas.List.{take_min}
use Rattle.document.specs.declared.node.Node.{Node}
use Rattle.document.specs.declared.refusal.Question.{Question}
use Rattle.document.specs.declared.refusal.Question.TheVariants.{Count, Kind, Tag, Value, Links, Sums}
use Rattle.document.specs.declared.standing.Document.{Document}
use Rattle.document.specs.Check.{AllFit, FaultBy, Handed, nodes_in, links_in, text_in, nodes_space, RefusedBy}
use Rattle.document.specs.Books.{Stands}

-- the entries within the space are those up to the limit
pub take_space : {X : Type 0} (k m : ℕ) (xs : List X) → k ≡ min (length xs) m → take k xs ≡ take m xs
take_space k m xs e = let same : k ≡ min m (length xs) = omega (arith, e) in ap (λ n. take n xs) same ∙ take_min m xs

refused_by : (h : Handed) (q : Question) (k : ℕ) → h.count ≤ nodes_space h → FaultBy (nodes_in h) (links_in h) (text_in h) q k → RefusedBy h q k
refused_by h Count k enough f = absurd f
refused_by h Kind k enough f = record { enough = enough; fault = f }
refused_by h Tag k enough f = record { enough = enough; fault = f }
refused_by h Value k enough f = record { enough = enough; fault = f }
refused_by h Links k enough f = record { enough = enough; fault = f }
refused_by h Sums k enough f = record { enough = enough; fault = f }

pub later :
    (h : Handed) (q : Question) (k : ℕ) (vs : List Node) (ls ts : List ℕ)
    → vs ≡ nodes_in h → ls ≡ links_in h → ts ≡ text_in h → h.count ≤ nodes_space h → FaultBy vs ls ts q k → RefusedBy h q k
later h q k vs ls ts a b d enough f =
    refused_by h q k enough
    (subst (λ x. FaultBy (nodes_in h) (links_in h) x q k) d
    (subst (λ x. FaultBy (nodes_in h) x ts q k) b
    (subst (λ x. FaultBy x ls ts q k) a f)))

pub stands :
    (h : Handed) (s e : Bool) (d : Document) → d.nodes.now ≡ nodes_in h → d.links.now ≡ links_in h → d.text.now ≡ text_in h
    → d.start_implicit ≡ s → d.end_implicit ≡ e → h.count ≤ nodes_space h
    → AllFit d.nodes.now d.links.now d.text.now → Stands h s e d
stands h s e d nodes links text starts ends enough fit =
    record {
      fit = record {
        enough = enough;
        all =
            subst (λ x. AllFit (nodes_in h) (links_in h) x) text
            (subst (λ x. AllFit (nodes_in h) x d.text.now) links
            (subst (λ x. AllFit x d.links.now d.text.now) nodes fit));
      };
      nodes = nodes;
      links = links;
      text = text;
      book = cc;
    }
