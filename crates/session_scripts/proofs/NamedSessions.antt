-- Batches with one more session.
use Rattle.std.proofs.Common.{◌≡◌, ℕ, ◌<◌, true, List, [], ◌∷◌, ◌++◌, length, arith}
use Rattle.std.proofs.lemmas.List.{length_push}
use Rattle.std.proofs.lemmas.List.Elements.{All-push}
use Rattle.qsr_lex.specs.Names.{is_name}
use Rattle.session_scripts.specs.declared.batch.Line.{Line}
use Rattle.session_scripts.specs.Batches.{IsBatch}

pub IsBatch-session : (sessions : List (List ℕ)) (name : List ℕ) (lines : List Line) → IsBatch (record { sessions = sessions; lines = lines }) → is_name name ≡ true → length sessions < 64 →
    IsBatch (record { sessions = sessions ++ name ∷ []; lines = lines })
IsBatch-session sessions name lines b named few = record {
  names = All-push (λ session. is_name session ≡ true) sessions name b.names named;
  sessions = omega (arith, length_push sessions name);
  lines = b.lines;
}
