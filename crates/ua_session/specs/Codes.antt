-- How a session is stored where it is a part of a value.
use Rattle.std.specs.Prelude.{ℕ, ℤ, Bool, List, refl}
use Rattle.std.specs.Coded.{Coded, code_by, coded×, coded_ℕ, coded_ℤ, coded_bool, coded_list}
use Rattle.std.specs.FinMap.{FinMap, code}
use Rattle.std.specs.Ordering.{nat_cmp}
use Rattle.ua_session.specs.PointCodes.{points_code}
use Rattle.ua_session.specs.Points.{PointsState}
use Rattle.ua_session.specs.Sessions.{SessionsState}
use Rattle.ua_session.specs.declared.session.Session.{Session}

abbrev pub session_code : Coded Session
session_code =
    code_by
    (List ℕ × (ℕ × (Bool × ℤ)))
    (coded× (coded_list coded_ℕ) (coded× coded_ℕ (coded× coded_bool coded_ℤ)))
    (λ s. (s.secret, (s.conn, (s.is_activated, s.deadline.0))))
    (λ p. record { secret = p.0; conn = p.1.0; is_activated = p.1.1.0; deadline = record { 0 = p.1.1.1 } })
    (λ _. refl)

abbrev pub sessions_code : Coded SessionsState
sessions_code =
    code_by
    (ℕ × (ℕ × (ℤ × (FinMap nat_cmp Session × (ℕ × (ℕ × (ℕ × FinMap nat_cmp PointsState)))))))
    (coded× coded_ℕ (coded× coded_ℕ (coded× coded_ℤ (coded× (code coded_ℕ session_code) (coded× coded_ℕ (coded× coded_ℕ (coded× coded_ℕ (code coded_ℕ points_code))))))))
    (λ s. (s.most, (s.time, (s.clock.0, (s.sessions, (s.made, (s.nonces, (s.most_points, s.points))))))))
    (λ p. record {
      most = p.0;
      time = p.1.0;
      clock = record { 0 = p.1.1.0 };
      sessions = p.1.1.1.0;
      made = p.1.1.1.1.0;
      nonces = p.1.1.1.1.1.0;
      most_points = p.1.1.1.1.1.1.0;
      points = p.1.1.1.1.1.1.1;
    })
    (λ _. refl)
