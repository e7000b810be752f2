use Rattle.std.proofs.Common.{◌≡◌, ◌∙◌, replicate, arith, ap, sym}
use Rattle.std.proofs.lemmas.List.Elements.{All-map}
use Rattle.calculus_table.specs.Rel.{IsWithin}
use Rattle.calculus_table.specs.Composition.{full_of}
use Rattle.network_words.specs.declared.fact.Fact.{Fact}
use Rattle.network_words.specs.Edge.{edge_count}
use Rattle.network_words.specs.Network.{Network}
use Rattle.session_versions.specs.HeldFacts.{HeldFact}
use Rattle.session_versions.proofs.Closures.{IsClosureOfFacts-small}
use Rattle.tests_of_versions.proofs.versions.network_of.Goals as goal

pub add_facts-requires-clause-within : goal.add_facts-requires-clause-within
add_facts-requires-clause-within c =
    rw (c.deref.ensures.value, c.in_ok-facts.ensures)
    (All-map (λ (f : Fact). IsWithin f.rel (full_of c.args.c.now.algebra)) (λ (h : HeldFact). h.fact) c.args.helds.now c.requires.sets)

pub returns-clause-closure : goal.returns-clause-closure
returns-clause-closure c =
    let made = c.in-Ok.ensures.ok in
    let words = ap (λ (n : Network). n.words) made in
    let full : c.in-Ok.net.words ≡ replicate (edge_count c.in-Ok.net.nodes) (full_of c.args.c.now.algebra) =
    words ∙ ap (λ x. replicate (edge_count 2) x) c.full.ensures ∙ ap (λ (n : Network). replicate (edge_count n.nodes) (full_of c.args.c.now.algebra)) (sym made) in
    IsClosureOfFacts-small _ 2 _ _ (omega arith) (rw (c.deref.ensures.value, c.in_ok-facts.ensures, made) at (c.in-Ok-add_facts.ensures.net full))
