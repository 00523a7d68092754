-- `first_word` meets its contract.
use mathlib.Core.Path.{refl}
use Prim.Native.Nat.{ℕ}
use borrow.Author.Rules.{rules}
use lib.ListN.{length, length-replicate}
use Rattle.compare_shortest.specs.Seen.{zeros_clear}
use Rattle.compare_shortest.specs.Product.{product_answer}
use Rattle.compare_shortest.proofs.first_word.Goals as goal

pub first_lasso-requires : goal.first_lasso-requires
first_lasso-requires c = (
  record {
    table_size = c.fill.ensures.plain_size;
    hits_size = search rules;
    seen_size = length-replicate {A = ℕ} 65536 0;
    places_size = length-replicate {A = ℕ} 65538 0;
    letters = c.requires.letters;
    clear = zeros_clear 65536;
  },
  c.fill.ensures.table_size,
  length-replicate {A = ℕ} 65538 0,
)

pub returns : goal.returns
returns c =
    product_answer c.fill.ensures c.requires refl c.args.hits.now (length c.args.prefix.now) (length c.args.cycle.now) c.args.prefix.now c.first_lasso.new.prefix c.args.cycle.now c.first_lasso.new.cycle c.first_lasso.result c.first_lasso.ensures
