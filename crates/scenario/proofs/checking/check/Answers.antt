use Rattle.std.proofs.Common.{◌≡◌, ◌∙◌, subst}
use Rattle.network_words.specs.Scenario.{IsScenario}
use Rattle.scenario.specs.ScenarioFault.{HasShape, IsMemberAt, ComposesAt, EachEdge, IsFirstEdge, IsFirstTriple}
use Rattle.scenario.proofs.Rows.{EachEdge-pairs, IsFirstEdge-pair}
use Rattle.scenario.proofs.Faults.{IsScenario-checked}
use Rattle.scenario.proofs.checking.check.Goals as goal

pub returns-in-Some : goal.returns-in-Some
returns-in-Some g c =
    let m = g.C.Compose.algebra c.args.c.now in
    let n = c.args.net.now.nodes in
    let words = c.args.net.now.words in
    let bases = c.as_slice-bases.result.now in
    let i = c.in-Some.i in
    let j = c.in-Some.j in
    let same : bases ≡ c.args.s.now = c.as_slice-bases.ensures.value ∙ c.s.view_is in
    subst (λ xs. HasShape m n xs × IsFirstEdge n (IsMemberAt words xs) i j) same
    (c.has_shape.ensures.0 c.if-not-has_shape.false, IsFirstEdge-pair n (IsMemberAt words bases) i j c.in-Some.ensures)

pub returns-in-Some-first_broken : goal.returns-in-Some-first_broken
returns-in-Some-first_broken g c =
    let m = g.C.Compose.algebra c.args.c.now in
    let n = c.args.net.now.nodes in
    let words = c.args.net.now.words in
    let bases = c.as_slice-bases.result.now in
    let triple = c.in-Some-first_broken in
    let same : bases ≡ c.args.s.now = c.as_slice-bases.ensures.value ∙ c.s.view_is in
    subst (λ xs. HasShape m n xs × EachEdge n (IsMemberAt words xs) × IsFirstTriple n (ComposesAt m n xs) triple.i triple.j triple.k) same
    (c.has_shape.ensures.0 c.if-not-has_shape.false, EachEdge-pairs n (IsMemberAt words bases) c.in_default.ensures, triple.ensures)

pub returns : goal.returns
returns g c =
    let m = g.C.Compose.algebra c.args.c.now in
    let n = c.args.net.now.nodes in
    let words = c.args.net.now.words in
    let bases = c.as_slice-bases.result.now in
    let same : bases ≡ c.args.s.now = c.as_slice-bases.ensures.value ∙ c.s.view_is in
    subst (IsScenario m n words) same
    (IsScenario-checked m n words bases (c.has_shape.ensures.0 c.if-not-has_shape.false) (EachEdge-pairs n (IsMemberAt words bases) c.in_default.ensures) c.in_default-first_broken.ensures)
