use Rattle.qsr_top.proofs.OneOutput.{output_once}
use Rattle.qsr_top.proofs.SomeOutput.{output_there, scene_answered}
use Rattle.qsr_words.proofs.ClassesFit.{words_fit}
use Rattle.qsr_top.proofs.laws.output_is_one.Goals as goal

pub returns-clause-one : goal.returns-clause-one
returns-clause-one c = output_once

pub returns-clause-there : goal.returns-clause-there
returns-clause-there c = output_there

pub returns-clause-words : goal.returns-clause-words
returns-clause-words c = words_fit

pub returns-clause-scene : goal.returns-clause-scene
returns-clause-scene c = scene_answered
