-- What is written of a certificate is a file of it.
use Rattle.cert_file.specs.Certificate.{Certificate}
use Rattle.cert_file.specs.Files.{IsFileOf}
use Rattle.cert_file.specs.Written.{IsWritable, certificate_text, certificate_json}
use Rattle.cert_file.proofs.Texts.{IsUtf8-line, read-line}
use Rattle.cert_file.proofs.PlainCertificates.{IsPlain-certificate, depth-certificate}
use Rattle.cert_file.proofs.ReadAgain.{certificate_of-certificate_json}

pub IsFileOf-certificate_text : (c : Certificate) → IsWritable c → IsFileOf (certificate_text c) c
unfolding certificate_text
IsFileOf-certificate_text c h =
    let plain = IsPlain-certificate c h in
    record {
      value = certificate_json c;
      json = record { utf8 = IsUtf8-line (certificate_json c) plain; is_read = read-line (certificate_json c) plain (depth-certificate c) };
      is_made = certificate_of-certificate_json c h;
    }
