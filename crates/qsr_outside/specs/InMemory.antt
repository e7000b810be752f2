-- What contracts see of the objects in memory that stand in for real streams.
use Rattle.std.specs.Prelude.{ℕ, List, refl}
use Rattle.std.specs.Coded.{Coded, code_by, coded×, coded_list, coded_ℕ}
use Rattle.std.specs.FinMap as map
use Rattle.qsr_outside.specs.Counts.{count_after}
use Rattle.qsr_outside.specs.Documents.{Documents}

-- the numbers of the calls that are to fail, from 0, how many calls were made, and how many of them failed
pub record CallsState : Type 0 where
  pub failing : List ℕ
  pub made : ℕ
  pub faults : ℕ

-- no call yet
abbrev pub no_calls : List ℕ → CallsState
no_calls failing = record { failing = failing; made = 0; faults = 0 }

-- one more call, which did not fail
abbrev pub after_call : CallsState → CallsState
after_call state = record { failing = state.failing; made = count_after state.made 1; faults = state.faults }

-- one more call, which failed
abbrev pub after_failed_call : CallsState → CallsState
after_failed_call state =
    record { failing = state.failing; made = count_after state.made 1; faults = count_after state.faults 1 }

-- a source in memory
pub record BytesSourceState : Type 0 where
  pub left : List ℕ
  pub piece : ℕ
  pub given : ℕ
  pub calls : CallsState

-- a sink in memory
pub record BytesSinkState : Type 0 where
  pub held : List ℕ
  pub room : ℕ
  pub piece : ℕ
  pub calls : CallsState

-- a shelf in memory
pub record MapShelfState : Type 0 where
  pub documents : Documents
  pub left : List ℕ
  pub given : ℕ
  pub absent_openings : ℕ
  pub calls : CallsState

-- how calls are stored
abbrev pub calls_code : Coded CallsState
calls_code =
    code_by (List ℕ × (ℕ × ℕ)) (coded× (coded_list coded_ℕ) (coded× coded_ℕ coded_ℕ))
    (λ c. (c.failing, (c.made, c.faults))) (λ p. record { failing = p.0; made = p.1.0; faults = p.1.1 }) (λ _. refl)

-- how a shelf is stored
abbrev pub map_shelf_code : Coded MapShelfState
map_shelf_code =
    code_by (Documents × (List ℕ × (ℕ × (ℕ × CallsState))))
    (coded× (map.code (coded_list coded_ℕ) (coded_list coded_ℕ)) (coded× (coded_list coded_ℕ) (coded× coded_ℕ (coded× coded_ℕ calls_code))))
    (λ s. (s.documents, (s.left, (s.given, (s.absent_openings, s.calls)))))
    (λ p. record { documents = p.0; left = p.1.0; given = p.1.1.0; absent_openings = p.1.1.1.0; calls = p.1.1.1.1 }) (λ _. refl)
