use Rattle.std.proofs.Common.{◌∙◌, List, ℕ, inl, inr, subst}
use Rattle.closure_workers.specs.Slices.{HasClash}
use Rattle.closure_workers.proofs.Looks.{Looks-none, Looks-weaken}
use Rattle.closure_workers.proofs.slices.narrow_again.Goals as goal

pub returns-then-is_clash : goal.returns-then-is_clash
returns-then-is_clash g c =
    record {
      looks = Looks-none c.requires.looking
          (inr (subst (λ (ws : List ℕ). HasClash c.args.table.now.opening.nodes ws) (c.words.ensures ∙ c.requires.looking.snap)
          (subst (λ n. HasClash n c.words.result.now) c.nodes.ensures.value (c.is_clash.ensures.yes c.if-is_clash.true))));
    }

pub returns : goal.returns
returns g c = record { looks = Looks-weaken c.narrow_slice.ensures.looks (λ words h. inl (record { each = λ i k o b f t. h i k o b f t })) }
