-- Closing, searching and demonstrating make one text and one status at most.
use Rattle.std.proofs.Common.{◌≡◌, ℕ, List, ◌++◌, codes, refl, sym, ◌∙◌, ap, subst}
use Rattle.calculus_table.specs.Calculus.{NamedAlgebra}
use Rattle.calculus_builtin.specs.Rcc8.{rcc8_algebra}
use Rattle.calculus_builtin.specs.Allen.{allen_algebra}
use Rattle.allen_real.proofs.Uniqueness.{ranks-one}
use Rattle.qsr_lex.specs.Printed.{text_below}
use Rattle.tract_classes.specs.BuiltIn.{h8}
use Rattle.network_words.specs.Network.{Network}
use Rattle.network_words.specs.Closure.{IsClosure}
use Rattle.network_words.proofs.Networks.{IsClosure-unique}
use Rattle.network_file.specs.NetworkText.{network_text}
use Rattle.split_search.specs.Ruled.{IsVerdict}
use Rattle.split_search.specs.Verdicts.{nodes_of}
use Rattle.split_search.specs.declared.verdict.Verdict.{Verdict}
use Rattle.split_search.specs.declared.verdict.Verdict.TheVariants as verdict
use Rattle.split_search.proofs.OneVerdict.{verdict_one}
use Rattle.geo_facts.proofs.OneDemo.{demo-one}
use Rattle.qsr_words.specs.Asked.{SolveAsked, IntervalsAsked, DemoAsked}
use Rattle.qsr_words.specs.declared.TheConstants.{MAX_BUDGET}
use Rattle.qsr_inputs.specs.declared.statuses.Status.{Status}
use Rattle.qsr_inputs.specs.declared.statuses.Status.TheVariants.{Done, No}
use Rattle.qsr_answers.specs.Texts.{verdict_line}
use Rattle.qsr_answers.specs.Verdicts.{answer_text, verdict_status, verdict_word}
use Rattle.qsr_answers.specs.Demonstrations.{Demonstrates, demo_head, members_in_all}
use Rattle.qsr_answers.specs.Intervals.{IsIntervalsText, interval_line}
use Rattle.qsr_answers.specs.Commands.{ClosesNetwork, SolvesNetwork, RealisesNetwork, IsClosureText, IsStatusOf}
use Rattle.qsr_answers.proofs.CertificatesOnce.{IsSame}

-- ---- closing

verdict_is_one : (closed : Network) (s r : Status) → IsStatusOf closed s → IsStatusOf closed r → s ≡ r
verdict_is_one closed Done Done h k = refl
verdict_is_one closed No No h k = refl
verdict_is_one closed Done No h k = absurd (h k)
verdict_is_one closed No Done h k = absurd (k h)
verdict_is_one closed Done _ h k = absurd k
verdict_is_one closed No _ h k = absurd k
verdict_is_one closed _ r h k = absurd h

-- over one calculus and one network
module _ (c : NamedAlgebra) (net : Network) where
  same_closed : (x y : Network) (t u : List ℕ) → IsClosureText c net x t → IsClosureText c net y u → x ≡ y
  same_closed x y t u p q =
      let words : x.words ≡ y.words = IsClosure-unique c.algebra net.nodes net.words x.words y.words p.closure q.closure in
      p.rest ∙ ap (λ w. record net { words = w }) words ∙ sym q.rest

  pub closes_once : (t u : List ℕ) (s r : Status) → ClosesNetwork c net t s → ClosesNetwork c net u r → IsSame t u s r
  closes_once t u s r p q =
      let closed : p.closed ≡ q.closed = same_closed p.closed q.closed t u p.closure_text q.closure_text in
      record {
        text = p.closure_text.text_is ∙ ap (network_text c) closed ∙ sym q.closure_text.text_is;
        status = verdict_is_one q.closed s r (subst (λ x. IsStatusOf x s) closed p.verdict) q.verdict;
      }

  -- ---- searching

  pub solves_once : (asked : SolveAsked) (class t u : List ℕ) (s r : Status) → SolvesNetwork asked c class net t s → SolvesNetwork asked c class net u r → IsSame t u s r
  solves_once asked class t u s r h k =
      let same : h.verdict ≡ k.verdict = verdict_one c.algebra net.nodes class asked.budget net.words h.verdict k.verdict h.on_network.ruled k.on_network.ruled in
      record {
        text = h.text_is ∙ ap (answer_text asked.is_cert c net) same ∙ sym k.text_is;
        status = h.status_is ∙ ap verdict_status same ∙ sym k.status_is;
      }

-- ---- intervals

intervals_once : (net : Network) (v : Verdict) (t u : List ℕ) → IsIntervalsText net v t → IsIntervalsText net v u → t ≡ u
intervals_once net (verdict.Yes relations nodes) t u h k =
    let same : h.intervals ≡ k.intervals = ranks-one net.nodes relations h.intervals k.intervals h.realised k.realised in
    h.text_is ∙ ap (λ xs. verdict_line (codes "yes") nodes ++ text_below net.nodes (interval_line net.names xs)) same
    ∙ sym k.text_is
intervals_once net (verdict.No nodes) t u h k = h ∙ sym k
intervals_once net (verdict.Budget nodes) t u h k = h ∙ sym k

pub realises_once : (asked : IntervalsAsked) (class : List ℕ) (net : Network) (t u : List ℕ) (s r : Status) →
    RealisesNetwork asked class net t s → RealisesNetwork asked class net u r → IsSame t u s r
realises_once asked class net t u s r h k =
    let same : h.verdict ≡ k.verdict = verdict_one allen_algebra net.nodes class asked.budget net.words
    h.verdict k.verdict h.on_network.ruled k.on_network.ruled in
    record {
      text = intervals_once net k.verdict t u (subst (λ v. IsIntervalsText net v t) same h.text_is) k.text_is;
      status = h.status_is ∙ ap verdict_status same ∙ sym k.status_is;
    }

-- ---- demonstrations

module _ (asked : DemoAsked) (t u : List ℕ) (s r : Status) (h : Demonstrates asked t s) (k : Demonstrates asked u r) where
  same_network : h.network ≡ k.network
  same_network = (demo-one asked.seed asked.nodes h.network k.network h.kept k.kept h.is_demo k.is_demo).0

  same_kept : h.kept ≡ k.kept
  same_kept = (demo-one asked.seed asked.nodes h.network k.network h.kept k.kept h.is_demo k.is_demo).1

  same_closure : h.closure ≡ k.closure
  same_closure = IsClosure-unique rcc8_algebra k.network.nodes k.network.words h.closure k.closure
      (subst (λ x. IsClosure rcc8_algebra x.nodes x.words h.closure) same_network h.is_closure) k.is_closure

  same_verdict : h.verdict ≡ k.verdict
  same_verdict = verdict_one rcc8_algebra k.network.nodes h8 MAX_BUDGET k.network.words h.verdict k.verdict
      (subst (λ x. IsVerdict rcc8_algebra x.nodes h8 MAX_BUDGET x.words h.verdict) same_network h.ruled) k.ruled

  pub demonstrates_once : IsSame t u s r
  demonstrates_once =
      let tail : Verdict → List ℕ = λ v. verdict_line (verdict_word v) (nodes_of v) in
      record {
        text = h.text_is
            ∙ ap (λ x. demo_head asked x (members_in_all h.closure) ++ tail h.verdict) same_kept
            ∙ ap (λ x. demo_head asked k.kept (members_in_all x) ++ tail h.verdict) same_closure
            ∙ ap (λ x. demo_head asked k.kept (members_in_all k.closure) ++ tail x) same_verdict
            ∙ sym k.text_is;
        status = h.status_is ∙ ap verdict_status same_verdict ∙ sym k.status_is;
      }
