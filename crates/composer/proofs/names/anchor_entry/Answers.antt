use Rattle.std.proofs.Common.{◌++◌, length, drop, replicate, ap, ◌∙◌}
use Rattle.std.proofs.lemmas.List.{drop-replicate}
use Rattle.composer.proofs.names.anchor_entry.Goals as goal

pub returns : goal.returns
returns c =
    let name = c.args.name.now in
    let n = length name in
    let bytes = ap (λ bs. bs ++ drop n (replicate 64 0)) c.copy_from_slice.ensures.after ∙ ap (λ zs. name ++ zs) (drop-replicate n 64 0) in
    λ i. record { bytes = bytes i; size = n; node = c.args.node }
