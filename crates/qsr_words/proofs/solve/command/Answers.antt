use Rattle.std.proofs.Common.{◌∙◌, ap₂}
use Rattle.clap.specs.Words.{with_rule}
use Rattle.qsr_words.proofs.Commands.{app-with_rule}
use Rattle.qsr_words.proofs.solve.command.Goals as goal

pub returns : goal.returns
returns c =
    let calculus = c.in_ok-arg.ensures.shape c.word.ensures.local ∙ ap₂ with_rule c.new.ensures.app c.word.ensures.rule in
    let class = c.in_ok-arg-2.ensures.shape c.option.ensures.local ∙ ap₂ with_rule calculus c.option.ensures.rule in
    let polygons = c.in_ok-arg-3.ensures.shape c.option-2.ensures.local ∙ ap₂ with_rule class c.option-2.ensures.rule in
    let budget = c.in_ok-arg-4.ensures.shape c.option-3.ensures.local ∙ ap₂ with_rule polygons c.option-3.ensures.rule in
    let workers = c.in_ok-arg-5.ensures.shape c.option-4.ensures.local ∙ ap₂ with_rule budget c.option-4.ensures.rule in
    app-with_rule _ _ _ _ c.arg-6.result c.arg-6.ensures c.flag.ensures.local workers c.flag.ensures.rule
