-- The examples compute.
use Rattle.std.proofs.Common.{refl}
use Rattle.loader.specs.Loading.{running}
use Rattle.loads.specs.Examples.{SmallExamples, DeepExamples}

pub small_examples : SmallExamples
unfolding running
small_examples = record { loaded = (_, refl); holds_itself = refl; alias_first = refl; twice = refl; key_alone = refl; second_root = refl; no_root = refl; other_end = refl }

pub deep_examples : DeepExamples
unfolding running
deep_examples = record { deep = (_, refl); too_deep = λ ms. refl }
