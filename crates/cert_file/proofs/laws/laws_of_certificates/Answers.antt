use Rattle.std.proofs.Common.{refl}
use Rattle.serde_json.specs.Written.{compact_text}
use Rattle.cert_file.specs.Written.{certificate_text, certificate_json}
use Rattle.cert_file.proofs.OneLine.{HasNoLineEnd-compact_text}
use Rattle.cert_file.proofs.PlainCertificates.{IsPlain-certificate}
use Rattle.cert_file.proofs.WrittenFiles.{IsFileOf-certificate_text}
use Rattle.cert_file.proofs.ReadForms.{IsWritable-read}
use Rattle.cert_file.proofs.Answered.{file-answered}
use Rattle.cert_file.proofs.laws.laws_of_certificates.Goals as goal

pub returns-clause-written_is_read : goal.returns-clause-written_is_read
returns-clause-written_is_read _ = IsFileOf-certificate_text

pub returns-clause-file_has_answer : goal.returns-clause-file_has_answer
returns-clause-file_has_answer _ = file-answered

pub returns-clause-read_is_writable : goal.returns-clause-read_is_writable
returns-clause-read_is_writable _ = λ bytes c file. IsWritable-read file.value c file.is_made

pub returns-clause-read_has_forms_with_tree : goal.returns-clause-read_has_forms_with_tree
returns-clause-read_has_forms_with_tree _ = λ bytes c tree file bare. let forms = (IsWritable-read file.value c file.is_made).forms in record {
  some_nodes = forms.some_nodes;
  few_nodes = forms.few_nodes;
  some_relations = forms.some_relations;
  few_relations = forms.few_relations;
  names = forms.names;
  scenario = forms.scenario;
  leaves = bare;
}

pub returns-clause-written_is_line : goal.returns-clause-written_is_line
unfolding certificate_text
returns-clause-written_is_line _ = λ c h.
    record {
      line = compact_text (certificate_json c);
      is = refl;
      one = HasNoLineEnd-compact_text (certificate_json c) (IsPlain-certificate c h);
    }
